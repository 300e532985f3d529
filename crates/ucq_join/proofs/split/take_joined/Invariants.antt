use Rattle.std.proofs.Common.{◌≤◌, length}
use Rattle.ucq_join.proofs.Parts.{Taking}
use Rattle.ucq_join.proofs.split.take_joined.Given as goal

abbrev pub invariant-loop-place : goal.invariant-loop-place
invariant-loop-place l =
    record {
      taking : Taking l.terms l.known.items l.initial.rest.items l.taken.items l.rest.items;
      fewer : length l.rest.items ≤ length l.initial.rest.items;
    }

abbrev pub decreases-loop-place : goal.decreases-loop-place
decreases-loop-place l = length l.rest.items
