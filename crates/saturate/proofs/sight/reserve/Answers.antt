use Rattle.std.proofs.Common.{List, Bool, false, sym, subst}
use Rattle.saturate.specs.Sight.{IsMarked}
use Rattle.saturate.proofs.Sighted.{marks_push}
use Rattle.saturate.proofs.sight.reserve.Goals as goal

pub loop-marks-preserved : goal.loop-marks-preserved
loop-marks-preserved c = λ k there. subst (λ (ms : List Bool).
    IsMarked ms k) (sym c.in_ok-push.ensures.items)
    (marks_push c.loop-marks.marks.items false k (c.loop-marks.invariant k there))
