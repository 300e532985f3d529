use Rattle.std.proofs.Common.{◌≡◌, take}
use Rattle.checkpoint_text.specs.Suspended.{AreInOrder, numbers_in, seen_behind}
use Rattle.checkpoint_reader.proofs.stretches.seen_after.Given as goal

abbrev pub invariant-loop-stretch : goal.invariant-loop-stretch
invariant-loop-stretch l = record {
  order : AreInOrder l.fn.seen (numbers_in (take l.stretch-index l.stretches));
  seen_then : l.later ≡ seen_behind l.fn.seen (numbers_in (take l.stretch-index l.stretches));
}
