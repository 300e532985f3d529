-- Where a text stops being the front of a file.
use Rattle.std.specs.Prelude.{◌≡◌, ℕ, List, [], ◌∷◌, ◌++◌, Result, Ok, Err}
use Rattle.tcq_grammar.specs.Symbols.{Symbol}
use Rattle.tcq_grammar.specs.Texts.{Mark, marks, symbols}
use Rattle.tcq_grammar.specs.declared.checking.SyntaxFault.{SyntaxFault}
use Rattle.tcq_grammar.specs.declared.checking.SyntaxFault.TheVariants as faults
use Rattle.tcq_grammar.specs.Grammar.{IsFile, BeginsFile}

-- the symbols before the one at the place begin a file, and no file goes on with that one
pub record StopsAt (text : List Mark) (place : ℕ) : Type 0 where
  pub front : List Mark
  pub symbol : Symbol
  pub rest : List Mark
  pub parts : text ≡ front ++ record { symbol = symbol; start = place } ∷ rest
  pub before : BeginsFile (symbols front)
  pub stops : BeginsFile (symbols front ++ symbol ∷ []) → ⊥

-- the symbols begin a file and are none
pub record IsCutOff (text : List Mark) : Type 0 where
  pub before : BeginsFile (symbols text)
  pub unfinished : IsFile (symbols text) → ⊥

abbrev pub Checks : Result (Unit {0}) SyntaxFault → List ℕ → Type 0
Checks (Ok u) text = IsFile (symbols (marks text))
Checks (Err (faults.At place)) text = StopsAt (marks text) place
Checks (Err faults.End) text = IsCutOff (marks text)
Checks (Err faults.Memory) text = Unit {0}
