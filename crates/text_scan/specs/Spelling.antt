-- How the tokens of each kind are spelled.
use Rattle.std.specs.Prelude.{◌≡◌, ℕ, List, [], ◌∷◌}
use Rattle.dl_syntax.specs.Names.{IsName}
use Rattle.text_scan.specs.declared.TokenKind.{TokenKind}
use Rattle.text_scan.specs.declared.TokenKind.TheVariants.{Name, Var, Open, Close, Square, Unsquare}
use Rattle.text_scan.specs.declared.TokenKind.TheVariants.{Comma, Semi, Equal, Bar, Amp}
use Rattle.text_scan.specs.Lexing.{Lexeme}

-- a question mark and a name
abbrev pub IsVariable : List ℕ → Type 0
IsVariable [] = ⊥
IsVariable (mark ∷ name) = (mark ≡ 63) × IsName name

abbrev pub IsSpelling : TokenKind → List ℕ → Type 0
IsSpelling Name text = IsName text
IsSpelling Var text = IsVariable text
IsSpelling Open text = text ≡ 40 ∷ []
IsSpelling Close text = text ≡ 41 ∷ []
IsSpelling Square text = text ≡ 91 ∷ []
IsSpelling Unsquare text = text ≡ 93 ∷ []
IsSpelling Comma text = text ≡ 44 ∷ []
IsSpelling Semi text = text ≡ 59 ∷ []
IsSpelling Equal text = text ≡ 61 ∷ []
IsSpelling Bar text = text ≡ 124 ∷ []
IsSpelling Amp text = text ≡ 38 ∷ []

abbrev pub IsSpelled : Lexeme → Type 0
IsSpelled l = IsSpelling l.kind l.text
