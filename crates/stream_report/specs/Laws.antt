-- Laws of what is told, for every step.
use Rattle.std.specs.Prelude.{◌≡◌, ◌≢◌, ◌⊎◌, ◌↔◌, ℕ, ◌+◌, ◌<◌, ◌^◌, List, ◌++◌, length}
use Rattle.std.specs.declared.option.Option.{Option}
use Rattle.edge_io.specs.Known.{IsAtEnd, IsFront}
use Rattle.edge_io.specs.Lines.{Item as StreamLine, items, whole_items}
use Rattle.stream_report.specs.declared.ending.Ending.{Ending}
use Rattle.stream_report.specs.declared.ending.Ending.TheVariants.{Memory, StreamLimit}
use Rattle.stream_report.specs.Outside.{Ports}
use Rattle.stream_report.specs.Told.{Step, Told, Manner, Part, Report}
use Rattle.edge_io.specs.Writing.{IsProperFront}
use Rattle.stream_report.specs.Ends.{IsBeginning, BeginsPart, BeginsReport, Streamed}

-- the step gives one text, and one state
abbrev pub IsOneValued : {State : Type 0} → Step State → Type 0
IsOneValued {State} step = (state : State) (number : ℕ) (line : StreamLine) (one other : List ℕ)
    (after later : State) → step state number line one after → step state number line other later
    → (one ≡ other) × (after ≡ later)

-- the step gives some text
abbrev pub IsTotal : {State : Type 0} → Step State → Type 0
IsTotal {State} step = (state : State) (number : ℕ) (line : StreamLine)
    → (text : List ℕ) × (after : State) × step state number line text after

-- and one text stands last
abbrev pub HasOneText : {State : Type 0} → Manner State → Type 0
HasOneText {State} manner = IsOneValued manner.step
    × ((state : State) (one other : List ℕ) → manner.closes state one → manner.closes state other
    → one ≡ other)

-- what is told of lines joined is what is told of the first and then of the others
abbrev pub ToldJoined : {State : Type 0} → Step State → Type 0
ToldJoined {State} step =
    (first then : List StreamLine) (number : ℕ) (state next after : State) (told rest : List ℕ) →
    Told step first number state told next → Told step then (number + length first) next rest after
    →
    Told step (first ++ then) number state (told ++ rest) after

-- what is told of lines is what is told of their front and then of the others
pub record Parts {State : Type 0} (step : Step State) (first then : List StreamLine) (number : ℕ)
    (state after : State) (told : List ℕ) : Type 0 where
  pub front : List ℕ
  pub rest : List ℕ
  pub next : State
  pub tells_front : Told step first number state front next
  pub tells_rest : Told step then (number + length first) next rest after
  pub joined : told ≡ front ++ rest

-- and nothing else is told of lines joined
abbrev pub ToldParts : {State : Type 0} → Step State → Type 0
ToldParts {State} step =
    (first then : List StreamLine) (number : ℕ) (state after : State) (told : List ℕ) →
    Told step (first ++ then) number state told after
    → Parts step first then number state after told

-- one text is told of the same lines, and one state comes after them
abbrev pub OneTold : {State : Type 0} → Step State → Type 0
OneTold {State} step =
    (lines : List StreamLine) (number : ℕ) (state : State) (one other : List ℕ)
    (after later : State) →
    Told step lines number state one after → Told step lines number state other later
    → (one ≡ other) × (after ≡ later)

-- the report of the same lines is one text
abbrev pub OneReport : {State : Type 0} → Manner State → Type 0
OneReport {State} manner =
    (first : State) (lines : List StreamLine) (one other : List ℕ) →
    Report manner first lines one → Report manner first lines other → one ≡ other

-- so is the text of these lines without what stands last
abbrev pub OnePart : {State : Type 0} → Manner State → Type 0
OnePart {State} manner =
    (first : State) (lines : List StreamLine) (one other : List ℕ) →
    Part manner first lines one → Part manner first lines other → one ≡ other

-- a beginning of the text of some first lines is one of the text of all
abbrev pub BeginsAll : {State : Type 0} → Manner State → Type 0
BeginsAll {State} manner =
    (first : State) (lines : List StreamLine) (wrote text : List ℕ) →
    IsBeginning IsFront manner first lines wrote → Part manner first lines text → IsFront wrote text

-- and one of the whole text
abbrev pub BeginsWhole : {State : Type 0} → Manner State → Type 0
BeginsWhole {State} manner =
    (first : State) (lines : List StreamLine) (wrote text : List ℕ) →
    IsBeginning IsFront manner first lines wrote → Report manner first lines text
    → IsFront wrote text

-- a run that was cut short wrote this: a write failed, or memory ran out
abbrev pub IsCutShort : {State : Type 0} → Manner State → State → Type 0 → List ℕ → List ℕ → Type 0
IsCutShort manner first at_end taken wrote =
    BeginsPart IsProperFront manner first at_end taken wrote
    ⊎ BeginsReport manner first at_end taken wrote
    ⊎ BeginsPart IsFront manner first at_end taken wrote

-- it is a beginning of each text of the complete lines, or, where the input has ended, of each
-- whole text
abbrev pub CutShort : {State : Type 0} → Manner State → Type 0
CutShort {State} manner =
    (first : State) (left : Option (List ℕ)) (taken wrote : List ℕ) →
    IsCutShort manner first (IsAtEnd left) taken wrote →
    ((text : List ℕ) → Part manner first (whole_items taken) text → IsFront wrote text)
    ⊎ (IsAtEnd left × ((text : List ℕ) → Report manner first (items taken) text
    → IsFront wrote text))

-- where the step gives some text, it is a beginning of one of them
abbrev pub CutShortOfSome : {State : Type 0} → Manner State → Type 0
CutShortOfSome {State} manner =
    (first : State) (lines : List StreamLine) (wrote : List ℕ) →
    IsBeginning IsFront manner first lines wrote
    → (text : List ℕ) × Part manner first lines text × IsFront wrote text

-- a run ends at the limit exactly where more was taken and the text of the complete lines was
-- written, but for want of memory
abbrev pub LimitIsExact : {State : Type 0} → Type 0 → Manner State → Type 0
LimitIsExact {State} Refusal manner =
    (ending : Ending Refusal) (first : State) (before now : Ports)
    (run : Streamed ending manner first before now) →
    ending ≢ Memory →
    ((ending ≡ StreamLimit) ↔ ((2 ^ 40 < length run.taken)
    × Part manner first (whole_items run.taken) run.wrote))
