use Rattle.std.proofs.Common.{◌≡◌, ◌-◌, ◌≤◌, length, drop, map}
use Rattle.owl_reader.specs.Statements.{all_declared}
use Rattle.owl_documents.specs.ItemViews.{item_seen}
use Rattle.owl_reader.specs.VocabularyViews.{vocabulary_seen}
use Rattle.owl_reader.proofs.declarations.declare_all.Given as goal

abbrev pub invariant-each : goal.invariant-each
invariant-each l = record {
  within : l.place ≤ length l.items;
  read : all_declared l.known (vocabulary_seen l.fn.vocabulary) (map (item_seen l.bytes) l.items)
      ≡ all_declared l.known (vocabulary_seen l.vocabulary)
      (map (item_seen l.bytes) (drop l.place l.items));
}

abbrev pub decreases-each : goal.decreases-each
decreases-each l = length l.items - l.place
