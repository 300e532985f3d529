-- The symbols of a text, and where they stand.
use Rattle.std.specs.Prelude.{ℕ, List, [], ◌∷◌, ◌++◌, map, Option, Some, None}
use Rattle.text_scan.specs.Lexing.{Lexeme, Lexed, lexed}
use Rattle.tcq_grammar.specs.Symbols.{Symbol, Fault, symbol_of}

-- a symbol and the place of its first byte
pub record Mark : Type 0 where
  pub symbol : Symbol
  pub start : ℕ

abbrev pub mark : Lexeme → Mark
mark l = record { symbol = symbol_of l.kind l.text; start = l.start }

-- a byte that is in no token is a symbol that no file has
abbrev pub fault_mark : Option ℕ → List Mark
fault_mark None = []
fault_mark (Some place) = record { symbol = Fault; start = place } ∷ []

abbrev pub marks_of : Lexed → List Mark
marks_of read = map mark read.tokens ++ fault_mark read.fault

-- the symbols of a text up to its first byte at fault
abbrev pub marks : List ℕ → List Mark
marks text = marks_of (lexed 0 0 text)

abbrev pub symbols : List Mark → List Symbol
symbols text = map (λ (m : Mark). m.symbol) text
