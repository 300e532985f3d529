use Rattle.std.proofs.Common.{◌≡◌, ◌-◌, ◌≤◌, length, drop, map}
use Rattle.owl_reader.specs.Statements.{all_said, class_term}
use Rattle.owl_documents.specs.Views.{class_seen}
use Rattle.owl_reader.specs.StatementViews.{term_seen, entities_seen}
use Rattle.owl_reader.proofs.SayingLemmas.{behind}
use Rattle.owl_reader.proofs.axioms.class_terms.Given as goal

abbrev pub invariant-each : goal.invariant-each
invariant-each l = record {
  within : l.place ≤ length l.classes;
  read :
      behind (map term_seen l.fn.roles.items)
      (all_said (class_term l.known (entities_seen l.entities))
      (map (class_seen l.bytes) l.classes))
      ≡ behind (map term_seen l.terms.items)
      (all_said (class_term l.known (entities_seen l.entities))
      (map (class_seen l.bytes) (drop l.place l.classes)));
}

abbrev pub decreases-each : goal.decreases-each
decreases-each l = length l.classes - l.place
