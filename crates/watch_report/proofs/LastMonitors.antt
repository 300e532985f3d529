-- The monitor behind a whole report.
use Rattle.std.proofs.Common.{◌≡◌, ℕ, List, ap}
use Rattle.edge_io.specs.Known.{IsAtEnd}
use Rattle.monitor_core.specs.Keeping.{Monitored}
use Rattle.stream_report.specs.declared.ending.Ending.{Ending}
use Rattle.stream_report.specs.declared.ending.Ending.TheVariants.{Done, Usage, Refused, ReadFault}
use Rattle.stream_report.specs.declared.ending.Ending.TheVariants.{WriteFault, Memory, StreamLimit}
use Rattle.stream_report.specs.Ends.{StreamedTo, WroteTo}
use Rattle.stream_report.specs.Outside.{Ports}
use Rattle.job_sources.specs.declared.refusal.Refusal.{Refusal}
use Rattle.watch_report.specs.declared.options.Options.{Options}
use Rattle.watch_report.specs.Monitoring.{Watched, monitoring, watched_from}

module _ (options : Options) (first last : Monitored) (count : ℕ) where
  -- it stands there, and so many lines were refused
  abbrev pub IsThere : Watched → Type 0
  IsThere at = at ≡ record { monitor = last; refused = count }

  abbrev pub IsLast : Watched → Type 0
  IsLast at = at.monitor ≡ last

  wrote_last : (ending : Ending Refusal) (at_end : Type 0) (taken wrote : List ℕ)
      → WroteTo ending (monitoring options) (watched_from first) IsThere at_end taken wrote
      → WroteTo ending (monitoring options) (watched_from first) IsLast at_end taken wrote
  wrote_last Done at_end taken wrote (end, short, to) = (
    end,
    short,
    record { report = to.report; stands = ap (λ (at : Watched). at.monitor) to.stands },
  )
  wrote_last Usage at_end taken wrote did = did
  wrote_last (Refused refusal) at_end taken wrote did = did
  wrote_last ReadFault at_end taken wrote did = did
  wrote_last WriteFault at_end taken wrote did = did
  wrote_last Memory at_end taken wrote did = did
  wrote_last StreamLimit at_end taken wrote did = did

  pub last_monitor : (ending : Ending Refusal) (before now : Ports)
      → StreamedTo ending (monitoring options) (watched_from first) IsThere before now
      → StreamedTo ending (monitoring options) (watched_from first) IsLast before now
  last_monitor ending before now run = record {
    taken = run.taken;
    takes = run.takes;
    most = run.most;
    wrote = run.wrote;
    gains = run.gains;
    writes = wrote_last ending (IsAtEnd now.input.left) run.taken run.wrote run.writes;
  }
