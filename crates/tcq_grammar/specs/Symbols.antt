-- The tokens of the grammar, without where they stand.
use Rattle.std.specs.Prelude.{ℕ, List}
use Rattle.text_scan.specs.declared.TokenKind.{TokenKind}
use Rattle.text_scan.specs.declared.TokenKind.TheVariants as kind
use Rattle.text_scan.specs.declared.Token.{Token}

pub data Symbol : Type 0 where
  Name : List ℕ → Symbol
  Var : List ℕ → Symbol
  Open : Symbol
  Close : Symbol
  Square : Symbol
  Unsquare : Symbol
  Comma : Symbol
  Semi : Symbol
  Equal : Symbol
  Bar : Symbol
  Amp : Symbol
  -- a byte that is in no token
  Fault : Symbol

abbrev pub symbol_of : TokenKind → List ℕ → Symbol
symbol_of kind.Name text = Name text
symbol_of kind.Var text = Var text
symbol_of kind.Open text = Open
symbol_of kind.Close text = Close
symbol_of kind.Square text = Square
symbol_of kind.Unsquare text = Unsquare
symbol_of kind.Comma text = Comma
symbol_of kind.Semi text = Semi
symbol_of kind.Equal text = Equal
symbol_of kind.Bar text = Bar
symbol_of kind.Amp text = Amp

abbrev pub symbol : Token → Symbol
symbol token = symbol_of token.kind token.text.now
