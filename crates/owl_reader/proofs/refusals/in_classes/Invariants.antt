use Rattle.std.proofs.Common.{◌≡◌, ◌-◌, ◌≤◌, ℕ, List, length, drop, map}
use Rattle.owl_reader.specs.Refusals.{first_of, in_class}
use Rattle.owl_documents.specs.Views.{class_seen}
use Rattle.owl_reader.proofs.refusals.in_classes.Given as goal

abbrev pub invariant-loop-place : goal.invariant-loop-place
invariant-loop-place l = record {
  within : l.place ≤ length l.classes;
  passed : (bytes : List ℕ) → first_of in_class (map (class_seen bytes) l.classes)
      ≡ first_of in_class (map (class_seen bytes) (drop l.place l.classes));
}

abbrev pub decreases-loop-place : goal.decreases-loop-place
decreases-loop-place l = length l.classes - l.place
