use Rattle.std.proofs.Common.{[], take}
use Rattle.progression.specs.Kept.{Fits, StandsFor}
use Rattle.step_examples.specs.Plain.{history_of, LeavesAskForMembers}
use Rattle.step_examples.proofs.running.agrees.Given as goal

abbrev pub invariant-loop-count : goal.invariant-loop-count
invariant-loop-count l = record {
  fits : Fits l.query 1 l.kept;
  stands : LeavesAskForMembers l.query
      → StandsFor [] 1 (history_of (take l.count l.facts)) l.query l.kept;
}
