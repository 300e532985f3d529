use Rattle.std.proofs.Common.{◌≡◌, ◌-◌, ◌≤◌, ℕ, List, length, drop, map}
use Rattle.owl_reader.specs.Refusals.{first_of, in_item}
use Rattle.owl_documents.specs.ItemViews.{item_seen}
use Rattle.owl_reader.proofs.refusals.first_refused.Given as goal

abbrev pub invariant-loop-place : goal.invariant-loop-place
invariant-loop-place l = record {
  within : l.place ≤ length l.items;
  passed : (bytes : List ℕ) → first_of in_item (map (item_seen bytes) l.items)
      ≡ first_of in_item (map (item_seen bytes) (drop l.place l.items));
}

abbrev pub decreases-loop-place : goal.decreases-loop-place
decreases-loop-place l = length l.items - l.place
