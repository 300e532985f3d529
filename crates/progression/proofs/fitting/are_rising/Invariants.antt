use Rattle.progression.proofs.FitTests.{RiseTo}
use Rattle.progression.proofs.fitting.are_rising.Given as goal

abbrev pub invariant-loop-place : goal.invariant-loop-place
invariant-loop-place l = RiseTo l.tables l.place
