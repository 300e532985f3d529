-- Whether a text goes on with a token of one kind.
use Rattle.std.specs.Prelude.{◌≡◌, ℕ, List, Option, Some, None}
use Rattle.text_scan.specs.declared.TokenKind.{TokenKind}
use Rattle.text_scan.specs.declared.TokenKind.TheVariants.{Name, Var}
use Rattle.text_scan.specs.declared.Token.{Token}
use Rattle.text_scan.specs.declared.Next.TheVariants as next
use Rattle.text_scan.specs.Lexing.{Lexeme, Lexed, lexed_from, with_first, IsNext}

-- a token of this kind is one byte
abbrev pub IsMark : TokenKind → Type 0
IsMark Name = ⊥
IsMark Var = ⊥
IsMark _ = Unit {0}

-- the next token where it is of this kind, and nothing where no token of this kind comes next
abbrev pub IsNextOf : TokenKind → List ℕ → ℕ → Option Token → Type 0
IsNextOf kind text from (Some t) = (t.kind ≡ kind) × IsNext text from (next.Token t)
IsNextOf kind text from None = (first : Lexeme) (rest : Lexed)
    → lexed_from text from ≡ with_first first rest → first.kind ≡ kind → ⊥
