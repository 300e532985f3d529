-- Streams whose lines come mixed, each of which is told as a stream is told alone.
use Rattle.std.specs.Prelude.{◌≡◌, ℕ, ◌+◌, ◌&&◌, not, nat_le, Bool, if◌then◌else◌, MatchBool, List}
use Rattle.std.specs.Prelude.{[], ◌∷◌, ◌++◌, length, map, codes}
use Rattle.std.specs.List.{list_any}
use Rattle.std.specs.Str.{bytes_eq}
use Rattle.edge_io.specs.Lines.{text}
use Rattle.stream_report.specs.Told.{Step, Manner}
use Rattle.marked_lines.specs.Marks.{Marked, Belonging, to_stream, skipped, to_none, is_long}
use Rattle.marked_lines.specs.Marks.{belongs}
use Rattle.marked_lines.specs.Texts.{Text, marked, refusal_text, end_text}

-- the most streams
abbrev pub most_streams : ℕ
most_streams = 64

-- where one stream is between lines: its name, how many lines it had, and what state is kept of it
pub record Stream (State : Type 0) : Type 0 where
  pub name : Text
  pub lines : ℕ
  pub state : State

-- where all are, in order of first entry, and how many lines were refused that belong to none
pub record Mixed (State : Type 0) : Type 0 where
  pub streams : List (Stream State)
  pub unowned : ℕ

-- before the first line
abbrev pub unmixed : {State : Type 0} → Mixed State
unmixed = record { streams = []; unowned = 0 }

abbrev pub names_in : {State : Type 0} → List (Stream State) → List Text
names_in streams = map (λ stream. stream.name) streams

abbrev pub has_name : Text → List Text → Bool
has_name name names = list_any (bytes_eq name) names

-- a stream before its first line
abbrev pub begun : {State : Type 0} → State → Text → Stream State
begun first name = record { name = name; lines = 0; state = first }

-- the streams with the one of this name, which begins last where none has the name
abbrev pub with_stream : {State : Type 0} → State → Text → List (Stream State)
    → List (Stream State)
with_stream first name streams =
    if has_name name (names_in streams) then streams else streams ++ begun first name ∷ []

-- the name is new, and there are as many streams as may be
abbrev pub is_one_too_many : Text → List Text → Bool
is_one_too_many name names = not (has_name name names) && nat_le most_streams (length names)

-- the first of these streams goes on by a line, of which this is told behind its mark
abbrev pub FirstGoesOn : {State : Type 0} → Step State → Text → Stream State
    → List (Stream State) → Text → List (Stream State) → Type 0
FirstGoesOn {State} step line stream streams told after =
    (alone : Text)
    × (next : State)
    × step stream.state (stream.lines + 1) (text line) alone next
    × (told ≡ marked stream.name alone)
    × (after ≡ record { name = stream.name; lines = stream.lines + 1; state = next } ∷ streams)

-- the stream of this name does, and the others stay
abbrev pub GoesOn : {State : Type 0} → Step State → Text → Text → List (Stream State) → Text
    → List (Stream State) → Type 0
GoesOn step name line [] told after = ⊥
GoesOn {State} step name line (stream ∷ streams) told after =
    MatchBool (bytes_eq name stream.name) (FirstGoesOn step line stream streams told after)
    ((later : List (Stream State)) × GoesOn step name line streams told later
    × (after ≡ stream ∷ later))

-- a line that belongs to no stream is refused
abbrev pub Refuses : {State : Type 0} → Mixed State → ℕ → Text → Text → Mixed State → Type 0
Refuses before number cause told after =
    (told ≡ refusal_text number cause)
    × (after ≡ record before { unowned = before.unowned + 1 })

-- a marked line is that of its stream, which begins with it where the name is new, unless it would
-- be one too many
abbrev pub TellsMarked : {State : Type 0} → Step State → State → Mixed State → ℕ → Marked → Text
    → Mixed State → Type 0
TellsMarked step first before number line told after =
    MatchBool (is_one_too_many line.name (names_in before.streams))
    (Refuses before number (codes "too-many-streams " ++ line.name) told after)
    (GoesOn step line.name line.rest (with_stream first line.name before.streams) told after.streams
    × (after.unowned ≡ before.unowned))

abbrev pub Tells : {State : Type 0} → Step State → State → Mixed State → ℕ → Belonging → Text
    → Mixed State → Type 0
Tells step first before number (to_stream line) told after =
    TellsMarked step first before number line told after
Tells step first before number skipped told after = (told ≡ []) × (after ≡ before)
Tells step first before number to_none told after =
    Refuses before number (codes "no-stream") told after
Tells step first before number is_long told after =
    Refuses before number (codes "too-long") told after

-- what is told of a line, where the step tells of one of a stream alone
abbrev pub mixes : {State : Type 0} → Step State → State → Step (Mixed State)
mixes step first before number line told after =
    Tells step first before number (belongs line) told after

-- what stands last of each stream, in their order
abbrev pub AreClosed : {State : Type 0} → (State → Text → Type 0) → List (Stream State) → Text
    → Type 0
AreClosed closes [] told = told ≡ []
AreClosed closes (stream ∷ streams) told =
    (alone rest : Text) × closes stream.state alone × AreClosed closes streams rest
    × (told ≡ marked stream.name alone ++ rest)

abbrev pub Ends : {State : Type 0} → (State → Text → Type 0) → Mixed State → Text → Type 0
Ends closes after last =
    (ends : Text) × AreClosed closes after.streams ends
    × (last ≡ ends ++ end_text (length after.streams) after.unowned)

-- how mixed streams are told, each as it would be told so alone
abbrev pub mixing : {State : Type 0} → Step State → (State → Text → Type 0) → State
    → Manner (Mixed State)
mixing step closes first = record {
  opening = [];
  step = mixes step first;
  closes = Ends closes;
}
