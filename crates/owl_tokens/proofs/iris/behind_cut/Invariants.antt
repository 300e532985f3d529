use Rattle.std.proofs.Common.{◌≡◌, ◌-◌, ◌≤◌, length, drop}
use Rattle.owl_tokens.specs.Iris.{behind_cut}
use Rattle.owl_tokens.proofs.iris.behind_cut.Given as goal

abbrev pub invariant-loop-place : goal.invariant-loop-place
invariant-loop-place l = record {
  within : l.place ≤ length l.text;
  before : l.start ≤ l.place;
  passed : behind_cut (drop l.start l.text) (drop l.place l.text) ≡ behind_cut l.text l.text;
}

abbrev pub decreases-loop-place : goal.decreases-loop-place
decreases-loop-place l = length l.initial.text - l.place
