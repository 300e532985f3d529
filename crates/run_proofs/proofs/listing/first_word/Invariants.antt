use Rattle.std.proofs.Common.{take}
use Rattle.run_proofs.proofs.Words.{Free}
use Rattle.run_proofs.proofs.listing.first_word.Given as goal

abbrev pub invariant-loop-place : goal.invariant-loop-place
invariant-loop-place l = Free (take l.place l.text)
