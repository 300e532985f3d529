-- What one manner tells, another tells too.
use Rattle.std.proofs.Common.{◌≡◌, ℕ, ◌+◌, inl, inr, List, [], ◌∷◌, ◌++◌, refl}
use Rattle.std.proofs.Common.{sym, ◌∙◌, ap, subst}
use Rattle.edge_io.specs.Known.{IsAtEnd, IsFront}
use Rattle.edge_io.specs.Lines.{Item as StreamLine, items, whole_items}
use Rattle.stream_report.specs.declared.ending.Ending.{Ending}
use Rattle.stream_report.specs.declared.ending.Ending.TheVariants.{Done, Usage, Refused, ReadFault}
use Rattle.stream_report.specs.declared.ending.Ending.TheVariants.{WriteFault, Memory, StreamLimit}
use Rattle.stream_report.specs.Outside.{Ports}
use Rattle.stream_report.specs.Told.{Manner, Told, Part, Report}
use Rattle.edge_io.specs.Writing.{IsProperFront}
use Rattle.stream_report.specs.Ends.{IsBeginning, BeginsPart, ReportTo, WroteTo, StreamedTo}

-- what the one manner tells of a line, the other tells too, to states that stay related; and they
-- begin and end with the same
pub record Refines {State Other : Type 0} (related : State → Other
    → Type 0) (manner : Manner State) (other : Manner Other) : Type 0 where
  pub opening : other.opening ≡ manner.opening
  pub step : (state : State) (at : Other) (number : ℕ) (line : StreamLine) (told : List ℕ)
      (after : State) → related state at → manner.step state number line told after
      → (later : Other) × other.step at number line told later × related after later
  pub closes : (state : State) (at : Other) (last : List ℕ) → related state at
      → manner.closes state last → other.closes at last

module _ {State Other : Type 0} (related : State → Other → Type 0) (manner : Manner State)
    (other : Manner Other) (refines : Refines related manner other) where
  told_too : (lines : List StreamLine) (number : ℕ) (state : State) (at : Other) (told : List ℕ)
      (after : State) → related state at → Told manner.step lines number state told after
      → (later : Other) × Told other.step lines number at told later × related after later
  told_too [] number state at told after is tells =
      (at, (tells.0, refl), subst (λ (s : State). related s at) (sym tells.1) is)
  told_too (line ∷ lines) number state at told after is tells =
      let one = refines.step state at number line tells.0 tells.2 is tells.3 in
      let rest = told_too lines (number + 1) tells.2 one.0 tells.1 after one.2 tells.4 in
      (rest.0, (tells.0, tells.1, one.0, one.1, rest.1, tells.5), rest.2)

  module _ (first : State) (then : Other) (is : related first then) where
    part_too : (lines : List StreamLine) (text : List ℕ) → Part manner first lines text
        → Part other then lines text
    part_too lines text part =
        let tells = told_too lines 1 first then part.told part.after is part.tells in
        record {
          told = part.told;
          after = tells.0;
          tells = tells.1;
          is = part.is ∙ ap (λ (opening : List ℕ). opening ++ part.told) (sym refines.opening);
        }

    begins_too : (is_front : List ℕ → List ℕ → Type 0) (lines : List StreamLine) (wrote : List ℕ)
        → IsBeginning is_front manner first lines wrote
        → IsBeginning is_front other then lines wrote
    begins_too is_front lines wrote begins = record {
      front = begins.front;
      rest = begins.rest;
      split = begins.split;
      text = begins.text;
      part = part_too begins.front begins.text begins.part;
      begins = begins.begins;
    }

    begins_part_too : (is_front : List ℕ → List ℕ → Type 0) (at_end : Type 0)
        (taken wrote : List ℕ) → BeginsPart is_front manner first at_end taken wrote
        → BeginsPart is_front other then at_end taken wrote
    begins_part_too is_front at_end taken wrote (inl begins) =
        inl (begins_too is_front (whole_items taken) wrote begins)
    begins_part_too is_front at_end taken wrote (inr (end, short, begins)) =
        inr (end, short, begins_too is_front (items taken) wrote begins)

    report_too : (stands_for : State → Type 0) (stands_then : Other → Type 0)
        → ((state : State) (at : Other) → related state at → stands_for state → stands_then at)
        → (lines : List StreamLine) (text : List ℕ) → ReportTo manner first stands_for lines text
        → ReportTo other then stands_then lines text
    report_too stands_for stands_then keeps lines text to =
        let report = to.report in
        let tells = told_too lines 1 first then report.told report.after is report.tells in
        record {
          report = record {
            told = report.told;
            after = tells.0;
            tells = tells.1;
            last = report.last;
            closes = refines.closes report.after tells.0 report.last tells.2 report.closes;
            is = report.is ∙ ap (λ (opening : List ℕ). opening ++ (report.told ++ report.last))
                (sym refines.opening);
          };
          stands = keeps report.after tells.0 tells.2 to.stands;
        }

    whole_too : (lines : List StreamLine) (text : List ℕ) → Report manner first lines text
        → Report other then lines text
    whole_too lines text report =
        (report_too (λ state. Unit {0}) (λ at. Unit {0}) (λ state at same always. always) lines text
        (record { report = report; stands = tt })).report

    module _ {Refusal : Type 0} (stands_for : State → Type 0) (stands_then : Other → Type 0)
        (keeps : (state : State) (at : Other) → related state at → stands_for state
        → stands_then at) where
      wrote_too : (ending : Ending Refusal) (at_end : Type 0) (taken wrote : List ℕ)
          → WroteTo ending manner first stands_for at_end taken wrote
          → WroteTo ending other then stands_then at_end taken wrote
      wrote_too Done at_end taken wrote (end, short, report) =
          (end, short, report_too stands_for stands_then keeps (items taken) wrote report)
      wrote_too Usage at_end taken wrote did = did
      wrote_too (Refused refusal) at_end taken wrote did = did
      wrote_too ReadFault at_end taken wrote (short, part) =
          (short, part_too (whole_items taken) wrote part)
      wrote_too WriteFault at_end taken wrote (inl begins) =
          inl (begins_part_too IsProperFront at_end taken wrote begins)
      wrote_too WriteFault at_end taken wrote (inr (end, short, (text, report, front))) =
          inr (end, short, (text, whole_too (items taken) text report, front))
      wrote_too Memory at_end taken wrote did = begins_part_too IsFront at_end taken wrote did
      wrote_too StreamLimit at_end taken wrote (long, part) =
          (long, part_too (whole_items taken) wrote part)

      -- what was written by the first is written by the other, and behind the whole of it there is
      -- what the relation keeps
      pub streamed_too : (ending : Ending Refusal) (before now : Ports)
          → StreamedTo ending manner first stands_for before now
          → StreamedTo ending other then stands_then before now
      streamed_too ending before now run = record {
        taken = run.taken;
        takes = run.takes;
        most = run.most;
        wrote = run.wrote;
        gains = run.gains;
        writes = wrote_too ending (IsAtEnd now.input.left) run.taken run.wrote run.writes;
      }
