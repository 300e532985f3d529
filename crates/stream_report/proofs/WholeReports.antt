-- Runs that wrote the whole report, and the state behind it.
use Rattle.std.proofs.Common.{◌≡◌, List, ℕ, sym, subst}
use Rattle.edge_io.specs.Known.{IsAtEnd}
use Rattle.edge_io.specs.declared.line.ReadEnd.{ReadEnd}
use Rattle.edge_io.specs.declared.line.ReadEnd.TheVariants as ends
use Rattle.stream_report.specs.declared.ending.Ending.{Ending}
use Rattle.stream_report.specs.declared.ending.Ending.TheVariants.{Done, Usage, Refused, ReadFault}
use Rattle.stream_report.specs.declared.ending.Ending.TheVariants.{WriteFault, Memory, StreamLimit}
use Rattle.stream_report.specs.Outside.{Ports}
use Rattle.stream_report.specs.Told.{Manner}
use Rattle.stream_report.specs.Ends.{ending_of, Wrote, WroteTo, Streamed, StreamedTo}

-- the run didn't write the whole report
abbrev pub IsCutOff : {Refusal : Type 0} → Ending Refusal → Type 0
IsCutOff Done = ⊥
IsCutOff _ = Unit {0}

pub stopped_is_cut : {Refusal : Type 0} (ending : Ending Refusal) (end : ReadEnd)
    → ending ≡ ending_of end → IsCutOff ending
stopped_is_cut ending ends.ReadFault is = subst IsCutOff (sym is) tt
stopped_is_cut ending ends.StreamLimit is = subst IsCutOff (sym is) tt

module _ {Refusal State : Type 0} (manner : Manner State) (first : State) (stands_for : State
    → Type 0) where
  -- whatever holds of the state behind it, so much was written
  wrote_of : (ending : Ending Refusal) (at_end : Type 0) (taken wrote : List ℕ)
      → WroteTo ending manner first stands_for at_end taken wrote
      → Wrote ending manner first at_end taken wrote
  wrote_of Done at_end taken wrote did = (did.0, did.1, did.2.report)
  wrote_of Usage at_end taken wrote did = did
  wrote_of (Refused refusal) at_end taken wrote did = did
  wrote_of ReadFault at_end taken wrote did = did
  wrote_of WriteFault at_end taken wrote did = did
  wrote_of Memory at_end taken wrote did = did
  wrote_of StreamLimit at_end taken wrote did = did

  pub streamed : (ending : Ending Refusal) (before now : Ports)
      → StreamedTo ending manner first stands_for before now
      → Streamed ending manner first before now
  streamed ending before now run = record {
    taken = run.taken;
    takes = run.takes;
    most = run.most;
    wrote = run.wrote;
    gains = run.gains;
    writes = wrote_of ending (IsAtEnd now.input.left) run.taken run.wrote run.writes;
  }

  wrote_to : (ending : Ending Refusal) (at_end : Type 0) (taken wrote : List ℕ) → IsCutOff ending
      → Wrote ending manner first at_end taken wrote
      → WroteTo ending manner first stands_for at_end taken wrote
  wrote_to Done at_end taken wrote short did = absurd short
  wrote_to Usage at_end taken wrote short did = did
  wrote_to (Refused refusal) at_end taken wrote short did = did
  wrote_to ReadFault at_end taken wrote short did = did
  wrote_to WriteFault at_end taken wrote short did = did
  wrote_to Memory at_end taken wrote short did = did
  wrote_to StreamLimit at_end taken wrote short did = did

  -- where the whole report wasn't written nothing has to hold of a state behind it
  pub cut_off : (ending : Ending Refusal) (before now : Ports) → IsCutOff ending
      → Streamed ending manner first before now
      → StreamedTo ending manner first stands_for before now
  cut_off ending before now short run = record {
    taken = run.taken;
    takes = run.takes;
    most = run.most;
    wrote = run.wrote;
    gains = run.gains;
    writes = wrote_to ending (IsAtEnd now.input.left) run.taken run.wrote short run.writes;
  }
