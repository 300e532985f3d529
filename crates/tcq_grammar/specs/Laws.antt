-- Laws of the language and of the machine that reads it.
use Rattle.std.specs.Prelude.{◌≡◌, ◌↔◌, ℕ, List, Some}
use Rattle.tcq_grammar.specs.Symbols.{Symbol}
use Rattle.tcq_grammar.specs.Grammar.{File, Empty, FileFits, file_spelled, BeginsFile}
use Rattle.tcq_grammar.specs.Machine.{State, Between, run}
use Rattle.tcq_grammar.specs.Fronts.{so_far}
use Rattle.tcq_grammar.specs.Texts.{Mark, symbols}
use Rattle.tcq_grammar.specs.Fault.{StopsAt}

-- the file keeps the grammar's order of operators and nesting, and the text spells it
abbrev pub Spells : List Symbol → File → Type 0
Spells text file = FileFits file × (file_spelled file ≡ text)

-- a text leads to the state between queries behind a file exactly where it spells the file
abbrev pub LeadsBetween : Type 0
LeadsBetween = (text : List Symbol) (file : File)
    → (run (Some (Between Empty)) text ≡ Some (Between file)) ↔ Spells text file

-- the state that a text leads to has read exactly the text
abbrev pub SpellsItsFront : Type 0
SpellsItsFront = (text : List Symbol) (state : State)
    → run (Some (Between Empty)) text ≡ Some state → so_far state ≡ text

-- a text stops at one place at most
abbrev pub StopsOnce : Type 0
StopsOnce = (text : List Mark) (place other : ℕ)
    → StopsAt text place → StopsAt text other → place ≡ other

-- a text that begins a file stops nowhere
abbrev pub FrontsGoOn : Type 0
FrontsGoOn = (text : List Mark) (place : ℕ) → BeginsFile (symbols text) → ¬ StopsAt text place
