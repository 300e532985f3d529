-- How a run ends, and what it took and wrote by then.
use Rattle.std.specs.Prelude.{◌≡◌, ◌⊎◌, ℕ, ◌+◌, ◌<◌, ◌≤◌, ◌^◌, List, ◌++◌, length}
use Rattle.std.specs.declared.option.Option.{Option}
use Rattle.edge_io.specs.Causes.{Rose}
use Rattle.edge_io.specs.Known.{Takes, Gains, IsAtEnd, IsFront}
use Rattle.edge_io.specs.Lines.{Item as StreamLine, items, whole_items}
use Rattle.edge_io.specs.declared.line.ReadEnd.{ReadEnd}
use Rattle.edge_io.specs.declared.line.ReadEnd.TheVariants as ends
use Rattle.stream_report.specs.declared.ending.Ending.{Ending}
use Rattle.stream_report.specs.declared.ending.Ending.TheVariants.{Done, ReadFault, WriteFault}
use Rattle.stream_report.specs.declared.ending.Ending.TheVariants.{Memory, StreamLimit}
use Rattle.stream_report.specs.Outside.{Ports}
use Rattle.stream_report.specs.Told.{Manner, Part, Report, Closes}
use Rattle.edge_io.specs.Writing.{IsProperFront}

abbrev pub ending_of : {Refusal : Type 0} → ReadEnd → Ending Refusal
ending_of ends.ReadFault = ReadFault
ending_of ends.StreamLimit = StreamLimit

-- such a beginning of the text of some first lines
pub record IsBeginning {State : Type 0} (is_front : List ℕ → List ℕ
    → Type 0) (manner : Manner State) (first : State) (lines : List StreamLine)
    (wrote : List ℕ) : Type 0 where
  pub front : List StreamLine
  pub rest : List StreamLine
  pub split : lines ≡ front ++ rest
  pub text : List ℕ
  pub part : Part manner first front text
  pub begins : is_front wrote text

-- such a beginning of the text of some of the lines taken: of the complete ones, or of all of them
-- where the input has ended
abbrev pub BeginsPart : {State : Type 0} → (List ℕ → List ℕ → Type 0) → Manner State → State
    → Type 0 → List ℕ → List ℕ → Type 0
BeginsPart is_front manner first at_end taken wrote =
    IsBeginning is_front manner first (whole_items taken) wrote
    ⊎ (at_end × (length taken ≤ 2 ^ 40) × IsBeginning is_front manner first (items taken) wrote)

-- the input has ended, and this is a proper beginning of the whole text
abbrev pub BeginsReport : {State : Type 0} → Manner State → State → Type 0 → List ℕ → List ℕ
    → Type 0
BeginsReport manner first at_end taken wrote =
    at_end × (length taken ≤ 2 ^ 40) × ((text : List ℕ) × Report manner first (items taken) text
    × IsProperFront wrote text)

-- what was written of the text of the bytes taken
abbrev pub Wrote : {Refusal State : Type 0} → Ending Refusal → Manner State → State → Type 0
    → List ℕ → List ℕ → Type 0
Wrote Done manner first at_end taken wrote =
    at_end × (length taken ≤ 2 ^ 40) × Report manner first (items taken) wrote
Wrote ReadFault manner first at_end taken wrote =
    (length taken ≤ 2 ^ 40) × Part manner first (whole_items taken) wrote
Wrote StreamLimit manner first at_end taken wrote =
    (2 ^ 40 < length taken) × Part manner first (whole_items taken) wrote
Wrote WriteFault manner first at_end taken wrote =
    BeginsPart IsProperFront manner first at_end taken wrote
    ⊎ BeginsReport manner first at_end taken wrote
Wrote Memory manner first at_end taken wrote = BeginsPart IsFront manner first at_end taken wrote
Wrote _ manner first at_end taken wrote = ⊥

-- a fault has its cause
abbrev pub HasFault : {Refusal : Type 0} → Ending Refusal → Ports → Ports → Type 0
HasFault ReadFault before now = Rose before.input.faults now.input.faults
HasFault WriteFault before now = Rose before.out.faults now.out.faults
HasFault _ before now = Unit {0}

-- a run took these bytes from its input, at most one past the limit, and wrote these
pub record Streamed {Refusal State : Type 0} (ending : Ending Refusal) (manner : Manner State)
    (first : State) (before now : Ports) : Type 0 where
  pub taken : List ℕ
  pub takes : Takes before.input.left now.input.left taken
  pub most : length taken ≤ 2 ^ 40 + 1
  pub wrote : List ℕ
  pub gains : Gains before.out.got now.out.got wrote
  pub writes : Wrote ending manner first (IsAtEnd now.input.left) taken wrote

-- the whole text of these lines, told up to a state that this holds of
pub record ReportTo {State : Type 0} (manner : Manner State) (first : State) (stands_for : State
    → Type 0) (lines : List StreamLine) (text : List ℕ) : Type 0 where
  pub report : Report manner first lines text
  pub stands : stands_for report.after

-- what was written, and if the whole text was, what holds of the state behind it
abbrev pub WroteTo : {Refusal State : Type 0} → Ending Refusal → Manner State → State
    → (State → Type 0) → Type 0 → List ℕ → List ℕ → Type 0
WroteTo Done manner first stands_for at_end taken wrote =
    at_end × (length taken ≤ 2 ^ 40) × ReportTo manner first stands_for (items taken) wrote
WroteTo ending manner first stands_for at_end taken wrote =
    Wrote ending manner first at_end taken wrote

-- a run took these bytes and wrote these, and if it wrote the whole text, this holds of the very
-- state behind it
pub record StreamedTo {Refusal State : Type 0} (ending : Ending Refusal) (manner : Manner State)
    (first : State) (stands_for : State → Type 0) (before now : Ports) : Type 0 where
  pub taken : List ℕ
  pub takes : Takes before.input.left now.input.left taken
  pub most : length taken ≤ 2 ^ 40 + 1
  pub wrote : List ℕ
  pub gains : Gains before.out.got now.out.got wrote
  pub writes : WroteTo ending manner first stands_for (IsAtEnd now.input.left) taken wrote

-- a text was written, or a proper beginning of it
abbrev pub IsWritten : {Refusal : Type 0} → Ending Refusal → List ℕ → List ℕ → Type 0
IsWritten Done wrote text = wrote ≡ text
IsWritten WriteFault wrote text = IsProperFront wrote text
IsWritten _ wrote text = ⊥

-- so much was written of a text
pub record Written {Refusal : Type 0} (ending : Ending Refusal) (text : List ℕ)
    (before now : Option (List ℕ)) : Type 0 where
  pub wrote : List ℕ
  pub gains : Gains before now wrote
  pub is : IsWritten ending wrote text

-- how the end of a report ended: what stands last wasn't told, or was written behind what was
-- gathered, or a proper beginning of that
abbrev pub Finishes : {Refusal State : Type 0} → Ending Refusal → Manner State → State → List ℕ
    → Option (List ℕ) → Option (List ℕ) → Type 0
Finishes Memory manner state gathered before now = now ≡ before
Finishes ending manner state gathered before now =
    (text : List ℕ) × Closes manner state gathered text × Written ending text before now

-- how a command that reads a stream ended
abbrev pub StreamEnds : {Refusal State : Type 0} → Manner State → State → Ending Refusal → Ports
    → Ports → Type 0
StreamEnds manner first ending before now = Streamed ending manner first before now
    × HasFault ending before now

-- how a command that writes such a text, and reads no stream, ended: where memory ran out nothing
-- was written
abbrev pub TextEnds : {Refusal : Type 0} → (List ℕ → Type 0) → Ending Refusal → Ports → Ports
    → Type 0
TextEnds is_text Memory before now = (now.input ≡ before.input) × (now.out.got ≡ before.out.got)
TextEnds is_text ending before now =
    (now.input ≡ before.input)
    × ((text : List ℕ) × is_text text × Written ending text before.out.got now.out.got)
    × HasFault ending before now
