use Rattle.std.proofs.Common.{◌≡◌, ◌-◌, ◌≤◌, length, drop, map}
use Rattle.owl_reader.specs.Statements.{disjoint_terms, all_added}
use Rattle.owl_reader.specs.StatementViews.{term_seen}
use Rattle.owl_reader.proofs.axioms.add_disjoint_each.Given as goal

abbrev pub invariant-loop-place : goal.invariant-loop-place
invariant-loop-place l = record {
  within : l.place ≤ length l.terms;
  read : all_added l.fn.ontology (map (disjoint_terms (term_seen l.left)) (map term_seen l.terms))
      ≡ all_added l.ontology (map (disjoint_terms (term_seen l.left))
      (map term_seen (drop l.place l.terms)));
}

abbrev pub decreases-loop-place : goal.decreases-loop-place
decreases-loop-place l = length l.terms - l.place
