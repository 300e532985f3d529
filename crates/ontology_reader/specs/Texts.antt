-- What a text declares and states, or its first fault.
use Rattle.std.specs.Prelude.{◌≡◌, ℕ, ◌+◌, nat_lt, if◌then◌else◌, List, [], ◌∷◌, length, Result, Ok}
use Rattle.std.specs.Prelude.{Err}
use Rattle.text_scan.specs.Lines.{lines_of}
use Rattle.dl_syntax.specs.Ontology.{Declared, nothing_declared}
use Rattle.ontology_reader.specs.declared.OntologyKind.{OntologyKind}
use Rattle.ontology_reader.specs.declared.OntologyKind.TheVariants.{TooLong}
use Rattle.ontology_reader.specs.declared.OntologyFault.{OntologyFault}
use Rattle.ontology_reader.specs.declared.OntologyFault.TheVariants as fault
use Rattle.ontology_reader.specs.Adding.{line_added}

-- a line, counted from 1, and what is at fault there
abbrev pub FaultAt : Type 0
FaultAt = ℕ × OntologyKind

-- what the lines make of the ontology of so many lines before them
unfoldable pub lines_added : ℕ → Declared → List (List ℕ) → Result Declared FaultAt
lines_added before o [] = Ok o
lines_added before o (line ∷ rest) = elim (line_added o line) [
  | Ok next ↦ lines_added (before + 1) next rest
  | Err kind ↦ Err (before + 1, kind)
]

-- a text has at most so many bytes
abbrev pub most_bytes : ℕ
most_bytes = 4194304

-- a text that is too long is at fault at line 0
unfoldable pub text_says : List ℕ → Result Declared FaultAt
text_says text = if nat_lt most_bytes (length text) then Err (0, TooLong) else lines_added 0
    nothing_declared (lines_of text)

-- the answer is what is said, unless memory ran out
abbrev pub Tells : Result Declared OntologyFault → Result Declared FaultAt → Type 0
Tells (Ok o) said = said ≡ Ok o
Tells (Err (fault.Bad line kind)) said = said ≡ Err (line, kind)
Tells (Err fault.Memory) said = Unit {0}

-- the answer is what the text says, or its first fault, unless memory ran out
abbrev pub Reads : Result Declared OntologyFault → List ℕ → Type 0
Reads answer text = Tells answer (text_says text)
