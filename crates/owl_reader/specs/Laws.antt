-- Laws of what documents say.
use Rattle.std.specs.Prelude.{◌≡◌, ◌↔◌, ℕ, List, Ok, Err}
use Rattle.dl_syntax.specs.Ontology.{Declared, nothing_declared}
use Rattle.ontology_reader.specs.Sayings.{Saying}
use Rattle.owl_reader.specs.Statements.{all_added}
use Rattle.owl_reader.specs.Reading.{Fault, text_says}
use Rattle.owl_reader.specs.Standing.{Stands, FirstFault}

-- a text says what the statements say that it stands for, one after the other
abbrev pub SaysStatements : Type 0
SaysStatements = (text : List ℕ) (o : Declared) → text_says text ≡ Ok o
    → (sayings : List Saying) × Stands text sayings × (all_added nothing_declared sayings ≡ Ok o)

-- a text has a fault exactly where it is the first one, kind by kind
abbrev pub HasFirstFault : Type 0
HasFirstFault = (text : List ℕ) (line : ℕ) (fault : Fault)
    → (text_says text ≡ Err (line, fault)) ↔ FirstFault text line fault
