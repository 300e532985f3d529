-- The line at a place of a text.
use Rattle.std.specs.Prelude.{◌≡◌, ◌≢◌, ◌+◌, ℕ, ◌<◌, ◌≤◌, ◌^◌, if◌then◌else◌, Bool, false, Option}
use Rattle.std.specs.Prelude.{Some, None, List, [], ◌∷◌, ◌++◌, length, drop, decimal, flat_map}
use Rattle.std.specs.List.{All, Contains}
use Rattle.hex.specs.Hex.{IsBytes}
use Rattle.dl_syntax.specs.Names.{IsDeclarable}
use Rattle.dl_syntax.specs.Ontology.{Declared, with_individuals}
use Rattle.tcq_syntax.specs.Arrivals.{fault_of_name}
use Rattle.tcq_syntax.specs.Tcq.{Tcq}
use Rattle.checkpoint_text.specs.declared.checkpoint.Stretch.{Stretch}
use Rattle.checkpoint_text.specs.Suspended.{AreInOrder, AreStretches, IsListOf, numbers_in}
use Rattle.checkpoint_text.specs.Text.{Text, version_line, digest_line, ended, name_line, list_line}
use Rattle.checkpoint_text.specs.Text.{node_line, stretch_text}
use Rattle.checkpoint_reader.specs.declared.place.Place.{Place}

-- the text has no such byte
abbrev pub Lacks : ℕ → Text → Type 0
Lacks byte text = All (λ b. b ≢ byte) text

-- the line stands at the place, and the other place is behind it
pub record Takes (bytes : Text) (place : Place) (line : Text) (next : Place) : Type 0 where
  pub cut : drop place.offset bytes ≡ ended line ++ drop next.offset bytes
  pub one : Lacks 10 line
  pub within : next.offset ≤ length bytes
  pub counted : next.lines ≡ place.lines + 1

-- the text begins with no line of which the fact holds
abbrev pub HasNo : (Text → Type 0) → Text → Type 0
HasNo P text = (line later : Text) → text ≡ ended line ++ later → Lacks 10 line → P line → ⊥

-- ---- which line it is

-- the word and something behind it
abbrev pub BeginsWith : Text → Text → Type 0
BeginsWith word line = (rest : Text) × (line ≡ word ++ rest)

-- the word and a number
abbrev pub IsCounted : Text → Text → Type 0
IsCounted word line = (n : ℕ) × (n < 2 ^ 64) × (line ≡ word ++ decimal n)

-- the names at the beginning, where further ones may come
abbrev pub names_for : Bool → Option (List Text)
names_for grows = if grows then Some [] else None

abbrev pub IsVersion : Text → Type 0
IsVersion line = (names : Option (List Text)) × (line ≡ version_line names)

abbrev pub IsDigest : Text → Type 0
IsDigest line = (sum : List ℕ) × IsBytes sum × (length sum ≡ 32) × (line ≡ digest_line sum)

-- the name may come behind those that came
pub record MayCome (ontology : Declared) (queries : List Tcq) (came : List Text) (name : Text)
    : Type 0 where
  pub spelled : IsDeclarable name
  pub free : fault_of_name (with_individuals came ontology) queries false name ≡ None

abbrev pub IsNameLine : Declared → List Tcq → List Text → Text → Type 0
IsNameLine ontology queries came line = (name : Text) × MayCome ontology queries came name
    × (line ≡ name_line name)

-- the list is one of the queries', and none of those before
pub record IsNew (queries : List Tcq) (lists : List (List ℕ)) (sets : List ℕ) : Type 0 where
  pub list : IsListOf queries sets
  pub other : Contains lists sets → ⊥

abbrev pub IsListLine : List Tcq → List (List ℕ) → Text → Type 0
IsListLine queries lists line = (sets : List ℕ) × IsNew queries lists sets
    × (line ≡ list_line sets)

-- the numbers of stretches have at most 64 bits
abbrev pub AreSmall : List Stretch → Type 0
AreSmall stretches = All (λ s. (s.count < 2 ^ 64) × (s.list < 2 ^ 64)) stretches

-- the stretches may stand at the place of the query, of so many tuples, where so many lists have
-- occurred
pub record AreNext (lists : List (List ℕ)) (query : Tcq) (tuples place seen : ℕ)
    (stretches : List Stretch) : Type 0 where
  pub small : AreSmall stretches
  pub are : AreStretches lists query tuples place stretches
  pub order : AreInOrder seen (numbers_in stretches)

abbrev pub IsNodeLine : List (List ℕ) → Tcq → ℕ → ℕ → ℕ → Text → Type 0
IsNodeLine lists query tuples place seen line = (stretches : List Stretch)
    × AreNext lists query tuples place seen stretches
    × (line ≡ node_line (record { place = place; stretches = stretches }))

-- ---- items of a line

-- the text ends here, or a space (32) comes
abbrev pub EndsWord : Text → Type 0
EndsWord [] = Unit {0}
EndsWord (byte ∷ rest) = byte ≡ 32

-- the text begins with no stretch
abbrev pub HasNoStretch : Text → Type 0
HasNoStretch text = (s : Stretch) (more : Text) → s.count < 2 ^ 64 → s.list < 2 ^ 64
    → EndsWord more → text ≡ stretch_text s ++ more → ⊥

-- the text is no row of stretches
abbrev pub IsNoStretches : Text → Type 0
IsNoStretches text = (stretches : List Stretch) → AreSmall stretches
    → text ≡ flat_map stretch_text stretches → ⊥

-- the number behind a space
abbrev pub set_text : ℕ → Text
set_text set = 32 ∷ decimal set

abbrev pub HasNoSet : Text → Type 0
HasNoSet text = (set : ℕ) (more : Text) → set < 256 → EndsWord more → text ≡ set_text set ++ more
    → ⊥

abbrev pub IsNoSets : Text → Type 0
IsNoSets text = (sets : List ℕ) → All (λ set. set < 256) sets → text ≡ flat_map set_text sets → ⊥
