-- The ontology that a document stands for, or its first fault.
use Rattle.std.specs.Prelude.{◌≡◌, ℕ, ◌+◌, ◌-◌, ◌==◌, nat_lt, if◌then◌else◌, List, length}
use Rattle.std.specs.Prelude.{take, count_by, Option, Some, None, Result, Ok, Err}
use Rattle.short_names.specs.Names.{name_in}
use Rattle.dl_syntax.specs.Ontology.{Declared, nothing_declared}
use Rattle.owl_reader.specs.declared.entities.Flaw.{Flaw}
use Rattle.owl_reader.specs.declared.entities.Flaw.TheVariants as flaw
use Rattle.owl_reader.specs.declared.entities.SayFault.{SayFault}
use Rattle.owl_reader.specs.declared.entities.SayFault.TheVariants as say
use Rattle.owl_reader.specs.declared.reading.OwlKind.{OwlKind}
use Rattle.owl_reader.specs.declared.reading.OwlKind.TheVariants as kind
use Rattle.owl_reader.specs.declared.reading.OwlFault.{OwlFault}
use Rattle.owl_reader.specs.declared.reading.OwlFault.TheVariants as fault
use Rattle.owl_tokens.specs.Tokens.{Lexeme, lexed}
use Rattle.owl_tokens.specs.Tables.{Table}
use Rattle.owl_documents.specs.Terms.{Read}
use Rattle.owl_documents.specs.Items.{Item}
use Rattle.owl_documents.specs.Documents.{Document, document_read}
use Rattle.owl_reader.specs.Refusals.{first_of, in_item}
use Rattle.owl_reader.specs.Statements.{Said, ◌>>=◌, no_entities, Vocabulary, all_declared}
use Rattle.owl_reader.specs.Statements.{axioms_added}

-- what may be at fault in a document
pub data Fault : Type 0 where
  -- it has too many bytes
  too_long : Fault
  -- the token may not stand there
  bad_owl : Fault
  -- the token, of which this is the text, is outside of the profile
  unsupported : List ℕ → Fault
  -- the prefix or the entity isn't declared
  unknown : Fault
  -- the name is none that an ontology may have
  bad_name : Fault
  -- the name is another entity's
  name_twice : Fault
  -- the entity is declared as another kind
  wrong_kind : Fault
  -- there are as many names of the kind, inclusions or clashes as an ontology may have
  too_many : Fault

-- what an answer tells to be at fault
abbrev pub told : OwlKind → Fault
told kind.TooLong = too_long
told kind.BadOwl = bad_owl
told (kind.Unsupported word) = unsupported (name_in word)
told kind.Unknown = unknown
told kind.BadName = bad_name
told kind.NameTwice = name_twice
told kind.WrongKind = wrong_kind
told kind.TooMany = too_many

-- a line, counted from 1, and what is at fault there
abbrev pub FaultAt : Type 0
FaultAt = ℕ × Fault

-- how many lines end in a text
abbrev pub line_ends : List ℕ → ℕ
line_ends text = count_by (λ b. b == 10) text

-- the line of a place
abbrev pub line_of : List ℕ → ℕ → ℕ
line_of text place = line_ends (take place text) + 1

-- the line of the token at fault, or of the last byte
abbrev pub stop_line : List ℕ → Option ℕ → ℕ
stop_line text None = line_of text (length text - 1)
stop_line text (Some place) = line_of text place

abbrev pub fault_of : Flaw → Fault
fault_of flaw.Unknown = unknown
fault_of flaw.BadName = bad_name
fault_of flaw.NameTwice = name_twice
fault_of flaw.WrongKind = wrong_kind
fault_of flaw.TooMany = too_many

abbrev pub no_vocabulary : Vocabulary
no_vocabulary = record { entities = no_entities; ontology = nothing_declared }

-- first what is declared and then what is stated, each in the order of the text
unfoldable pub items_say : Table → Vocabulary → List Item → Said Declared
items_say known v items = all_declared known v items >>= (λ w.
    axioms_added known w.entities w.ontology items)

abbrev pub with_lines : List ℕ → Said Declared → Result Declared FaultAt
with_lines text (Ok o) = Ok o
with_lines text (Err (place, flaw)) = Err (line_of text place, fault_of flaw)

-- a document with something that isn't taken is at fault there
abbrev pub taken_says : List ℕ → Document → Option Lexeme → Result Declared FaultAt
taken_says text d None = with_lines text (items_say d.known no_vocabulary d.items)
taken_says text d (Some t) = Err (line_of text t.start, unsupported (take 64 t.text))

abbrev pub read_says : List ℕ → Read Document → Result Declared FaultAt
read_says text (Ok d) = taken_says text d (first_of in_item d.items)
read_says text (Err at) = Err (stop_line text at, bad_owl)

-- a text has at most so many bytes
abbrev pub most_bytes : ℕ
most_bytes = 4194304

-- a text that is too long is at fault at line 0
unfoldable pub text_says : List ℕ → Result Declared FaultAt
text_says text = if nat_lt most_bytes (length text) then Err (0, too_long) else read_says text
    (document_read (lexed 0 0 text))

-- the fault names a text at a line, unless memory ran out
abbrev pub Faults : OwlFault → ℕ → List ℕ → Type 0
Faults (fault.Bad line what) at text = (line ≡ at) × (told what ≡ unsupported text)
Faults fault.Memory at text = Unit {0}

-- the fault is the flaw at its line, unless memory ran out
abbrev pub IsFlawed : List ℕ → SayFault → OwlFault → Type 0
IsFlawed text (say.Flaw place flaw) (fault.Bad line what) =
    (line ≡ line_of text place) × (told what ≡ fault_of flaw)
IsFlawed text (say.Flaw place flaw) fault.Memory = ⊥
IsFlawed text say.Memory (fault.Bad line what) = ⊥
IsFlawed text say.Memory fault.Memory = Unit {0}

-- the answer is what is said, unless memory ran out
abbrev pub Tells : Result Declared OwlFault → Result Declared FaultAt → Type 0
Tells (Ok o) said = said ≡ Ok o
Tells (Err (fault.Bad line what)) said = said ≡ Err (line, told what)
Tells (Err fault.Memory) said = Unit {0}

-- the answer is what the text says, or its first fault, unless memory ran out
abbrev pub Reads : Result Declared OwlFault → List ℕ → Type 0
Reads answer text = Tells answer (text_says text)
