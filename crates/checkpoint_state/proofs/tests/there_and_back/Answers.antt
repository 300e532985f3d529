-- What was written fits the monitor that begins anew, since it watches the same.
use Rattle.std.proofs.Common.{sym, subst}
use Rattle.std.specs.Prelude.{not}
use Rattle.monitor_core.specs.Keeping.{Monitored}
use Rattle.monitor_core.specs.Restoring.{IsUnused}
use Rattle.checkpoint_text.specs.Suspended.{IsSuspended}
use Rattle.checkpoint_state.specs.Suspending.{frame_of}
use Rattle.checkpoint_state.proofs.Example.{begun_unused, none_came}
use Rattle.checkpoint_state.proofs.tests.there_and_back.Goals as goal

pub resume-requires-clause-unused : goal.resume-requires-clause-unused
resume-requires-clause-unused c =
    let m = c.args.monitor.now in
    subst IsUnused (sym c.exchange.ensures.monitor)
    (begun_unused m c.in_ok-begun.begun (not m.strangers) c.requires.strangers c.requires.none
    (c.in_ok-begun.ensures.stands (none_came m c.requires.none)))

pub resume-requires-clause-fits : goal.resume-requires-clause-fits
resume-requires-clause-fits c =
    subst (λ (m : Monitored). IsSuspended (frame_of m) c.in_ok-checkpoint.checkpoint)
    (sym c.exchange.ensures.monitor) c.in_ok-checkpoint.ensures.fits
