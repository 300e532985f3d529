use Rattle.std.proofs.Common.{◌≡◌, ◌-◌, ◌≤◌, length, drop, map}
use Rattle.owl_reader.specs.Statements.{all_said, role_term}
use Rattle.owl_documents.specs.Views.{role_seen}
use Rattle.owl_reader.specs.StatementViews.{term_seen, entities_seen}
use Rattle.owl_reader.proofs.SayingLemmas.{behind}
use Rattle.owl_reader.proofs.axioms.role_terms.Given as goal

abbrev pub invariant-each : goal.invariant-each
invariant-each l = record {
  within : l.place ≤ length l.roles;
  read :
      all_said (role_term l.known (entities_seen l.entities)) (map (role_seen l.bytes) l.roles)
      ≡ behind (map term_seen l.terms.items)
      (all_said (role_term l.known (entities_seen l.entities))
      (map (role_seen l.bytes) (drop l.place l.roles)));
}

abbrev pub decreases-each : goal.decreases-each
decreases-each l = length l.roles - l.place
