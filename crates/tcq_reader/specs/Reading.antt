-- What a query text says, or its first fault.
use Rattle.std.specs.Prelude.{◌≡◌, ℕ, ◌+◌, ◌-◌, ◌<◌, ◌≤◌, ◌==◌, ◌⊎◌, List, take, length, Vec}
use Rattle.std.specs.Prelude.{Result, Ok, Err, Option, Some, None}
use Rattle.std.specs.List.{count_by}
use Rattle.std.specs.declared.alloc.Global.{Global}
use Rattle.dl_syntax.specs.Ontology.{Declared}
use Rattle.tcq_syntax.specs.Tcq.{Tcq}
use Rattle.tcq_grammar.specs.Grammar.{File, Empty, FileFits, file_spelled, IsFile}
use Rattle.tcq_grammar.specs.Machine.{Between}
use Rattle.tcq_grammar.specs.Texts.{marks, symbols}
use Rattle.tcq_grammar.specs.Fault.{StopsAt, IsCutOff}
use Rattle.tcq_reader.specs.declared.faults.QueryKind.{QueryKind}
use Rattle.tcq_reader.specs.declared.faults.QueryKind.TheVariants as kinds
use Rattle.tcq_reader.specs.declared.faults.QueryFault.{QueryFault}
use Rattle.tcq_reader.specs.declared.faults.QueryFault.TheVariants as faults
use Rattle.tcq_reader.specs.declared.faults.Stop.{Stop}
use Rattle.tcq_reader.specs.declared.faults.Stop.TheVariants as stop
use Rattle.tcq_reader.specs.Meaning.{queries_said}
use Rattle.tcq_reader.specs.Faults.{first_fault}

-- the most bytes that a text may have
abbrev pub most_bytes : ℕ
most_bytes = 4194304

-- the line of the byte at the place, counted from 1
abbrev pub line_of : List ℕ → ℕ → ℕ
line_of text place = 1 + count_by (λ b. b == 10) (take place text)

-- what a builder stopped at, with its line
abbrev pub fault_of : List ℕ → Stop → QueryFault
fault_of text (stop.At place kind) = faults.Bad (line_of text place) kind
fault_of text stop.Memory = faults.Memory

-- the first thing that is wrong with a text whose symbols are a file
abbrev pub fault_in : Declared → List ℕ → Option (ℕ × QueryKind)
fault_in o text = first_fault o (Some (Between Empty)) (marks text)

-- the text is a file with which nothing is wrong, and says the queries
pub record SaysQueries (o : Declared) (text : List ℕ) (queries : List Tcq) : Type 0 where
  pub short : length text ≤ most_bytes
  pub file : File
  pub fits : FileFits file
  pub spelled : file_spelled file ≡ symbols (marks text)
  pub no_fault : fault_in o text ≡ None
  pub says : queries ≡ queries_said o file

-- the text stops being the front of a file on the line
abbrev pub IsBadQuery : List ℕ → ℕ → Type 0
IsBadQuery text line =
    ((place : ℕ) × StopsAt (marks text) place × (line ≡ line_of text place))
    ⊎ (IsCutOff (marks text) × (line ≡ line_of text (length text - 1)))

-- the text is a file with which this is the first thing wrong
pub record IsWrong (o : Declared) (text : List ℕ) (line : ℕ) (kind : QueryKind) : Type 0 where
  pub short : length text ≤ most_bytes
  pub file : IsFile (symbols (marks text))
  pub place : ℕ
  pub first : fault_in o text ≡ Some (place, kind)
  pub line_is : line ≡ line_of text place

abbrev pub IsFault : Declared → List ℕ → ℕ → QueryKind → Type 0
IsFault o text line kinds.TooLong = (line ≡ 0) × (most_bytes < length text)
IsFault o text line kinds.BadQuery = (length text ≤ most_bytes) × IsBadQuery text line
IsFault o text line kinds.NameTwice = IsWrong o text line kinds.NameTwice
IsFault o text line kinds.Unknown = IsWrong o text line kinds.Unknown
IsFault o text line kinds.WrongKind = IsWrong o text line kinds.WrongKind
IsFault o text line kinds.Undeclared = IsWrong o text line kinds.Undeclared
IsFault o text line kinds.TooMany = IsWrong o text line kinds.TooMany
IsFault o text line (kinds.TooLarge total) = IsWrong o text line (kinds.TooLarge total)

abbrev pub Reads : Declared → List ℕ → Result (Vec Tcq Global) QueryFault → Type 0
Reads o text (Ok queries) = SaysQueries o text queries.items
Reads o text (Err (faults.Bad line kind)) = IsFault o text line kind
Reads o text (Err faults.Memory) = Unit {0}
