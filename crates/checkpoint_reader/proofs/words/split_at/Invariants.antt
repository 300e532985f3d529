use Rattle.std.proofs.Common.{take}
use Rattle.checkpoint_reader.specs.Lines.{Lacks}
use Rattle.checkpoint_reader.proofs.words.split_at.Given as goal

abbrev pub invariant-loop-place : goal.invariant-loop-place
invariant-loop-place l = Lacks l.byte (take l.place l.text)
