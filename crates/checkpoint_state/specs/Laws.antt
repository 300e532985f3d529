-- Laws of checkpoints.
use Rattle.std.specs.Prelude.{◌≡◌, ◌↔◌}
use Rattle.tcq_syntax.specs.Histories.{History}
use Rattle.checkpoint_text.specs.Suspended.{Frame, IsSuspended, Suspended}
use Rattle.monitor_core.specs.Keeping.{IsMonitored, Monitored}
use Rattle.monitor_core.specs.Standing.{Stands}
use Rattle.checkpoint_state.specs.Suspending.{frame_of, suspended}
use Rattle.checkpoint_state.specs.Telling.{IsCheckpointOf}

-- a history has one checkpoint
abbrev pub OneCheckpoint : Type 0
OneCheckpoint = (frame : Frame) (history : History) (c other : Suspended)
    → IsCheckpointOf frame history c → IsCheckpointOf frame history other → c ≡ other

-- a monitor stands for exactly the histories whose checkpoint is written of it
abbrev pub SuspendedTells : Type 0
SuspendedTells = (m : Monitored) (history : History) → IsMonitored m
    → IsSuspended (frame_of m) (suspended m)
    → Stands m history ↔ IsCheckpointOf (frame_of m) history (suspended m)
