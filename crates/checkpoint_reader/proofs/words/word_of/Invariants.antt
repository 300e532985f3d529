use Rattle.std.proofs.Common.{take}
use Rattle.checkpoint_reader.specs.Lines.{Lacks}
use Rattle.checkpoint_reader.proofs.words.word_of.Given as goal

abbrev pub invariant-loop-place : goal.invariant-loop-place
invariant-loop-place l = Lacks 32 (take l.place l.text)
