use Rattle.std.specs.Prelude.{[], Some}
use Rattle.checkpoint_reader.specs.Rules.{begun, behind_names}
use Rattle.checkpoint_reader.specs.Progress.{Reached}
use Rattle.checkpoint_reader.proofs.names.read_arrivals.Given as goal

abbrev pub invariant-loop-left : goal.invariant-loop-left
invariant-loop-left l =
    Reached l.job (behind_names l.left l.came (begun (Some []) l.accepted)) l.place

abbrev pub decreases-loop-left : goal.decreases-loop-left
decreases-loop-left l = l.left
