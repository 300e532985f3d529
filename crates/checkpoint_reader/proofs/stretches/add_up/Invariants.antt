use Rattle.std.proofs.Common.{◌≡◌, ◌+◌, ◌<◌, take}
use Rattle.std.specs.List.{All, sum_by}
use Rattle.checkpoint_reader.proofs.stretches.add_up.Given as goal

abbrev pub invariant-loop-stretch : goal.invariant-loop-stretch
invariant-loop-stretch l = record {
  some : All (λ s. 0 < s.count) (take l.stretch-index l.stretches);
  sum : sum_by (λ s. s.count) (take l.stretch-index l.stretches) + l.left ≡ l.tuples;
}
