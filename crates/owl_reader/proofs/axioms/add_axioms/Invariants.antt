use Rattle.std.proofs.Common.{◌≡◌, ◌-◌, ◌≤◌, length, drop, map}
use Rattle.owl_reader.specs.Statements.{axioms_added}
use Rattle.owl_documents.specs.ItemViews.{item_seen}
use Rattle.owl_reader.specs.StatementViews.{entities_seen}
use Rattle.owl_reader.proofs.axioms.add_axioms.Given as goal

abbrev pub invariant-each : goal.invariant-each
invariant-each l = record {
  within : l.place ≤ length l.items;
  read :
      axioms_added l.known (entities_seen l.entities) l.fn.ontology
      (map (item_seen l.bytes) l.items)
      ≡ axioms_added l.known (entities_seen l.entities) l.ontology
      (map (item_seen l.bytes) (drop l.place l.items));
}

abbrev pub decreases-each : goal.decreases-each
decreases-each l = length l.items - l.place
