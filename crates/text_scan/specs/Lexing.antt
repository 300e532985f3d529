-- The tokens of a text.
use Rattle.std.specs.Prelude.{◌≡◌, ℕ, zero, suc, ◌+◌, ◌-◌, ◌≤◌, ◌==◌, nat_le, if◌then◌else◌, List}
use Rattle.std.specs.Prelude.{[], ◌∷◌, take, drop, Result, Ok, Err, Option, Some, None, length, ◌<◌}
use Rattle.std.specs.List.{prefix_len}
use Rattle.text_scan.specs.declared.TokenKind.{TokenKind}
use Rattle.text_scan.specs.declared.TokenKind.TheVariants.{Name, Var, Open, Close, Square, Unsquare}
use Rattle.text_scan.specs.declared.TokenKind.TheVariants.{Comma, Semi, Equal, Bar, Amp}
use Rattle.text_scan.specs.declared.Piece.{Piece}
use Rattle.text_scan.specs.declared.Piece.TheVariants.{Gap, Word, Fault}
use Rattle.text_scan.specs.declared.Token.{Token}
use Rattle.text_scan.specs.declared.Next.{Next}
use Rattle.text_scan.specs.declared.Next.TheVariants as next
use Rattle.text_scan.specs.declared.ScanFault.{ScanFault}
use Rattle.text_scan.specs.declared.ScanFault.TheVariants as faults
use Rattle.dl_syntax.specs.Names.{is_letter, is_name_byte}
use Rattle.text_scan.specs.Bytes.{is_blank, is_comment_byte}

-- a token without where it lies in memory
pub record Lexeme : Type 0 where
  pub kind : TokenKind
  pub text : List ℕ
  pub start : ℕ

abbrev pub lexeme : Token → Lexeme
lexeme t = record { kind = t.kind; text = t.text.now; start = t.start }

-- a name of at most 64 bytes, whose first byte is the last of so many read before, and that goes on
-- as long as it can
abbrev pub named : TokenKind → ℕ → List ℕ → Piece
named kind before rest = if nat_le (1 + prefix_len is_name_byte rest) 64 then Word kind
    (before + prefix_len is_name_byte rest) else Fault

-- a variable's name after its mark
abbrev pub variable : List ℕ → Piece
variable [] = Fault
variable (b ∷ rest) = if is_letter b then named Var 2 rest else Fault

-- a token of one byte
abbrev pub mark : ℕ → Piece
mark b =
    if b == 40 then Word Open 1
    else if b == 41 then Word Close 1
    else if b == 91 then Word Square 1
    else if b == 93 then Word Unsquare 1
    else if b == 44 then Word Comma 1
    else if b == 59 then Word Semi 1
    else if b == 61 then Word Equal 1
    else if b == 124 then Word Bar 1
    else if b == 38 then Word Amp 1
    else Fault

-- what a text begins with, and its length: a name and a comment are taken as long as they go
abbrev pub piece : ℕ → List ℕ → Piece
piece b rest =
    if is_letter b then named Name 1 rest
    else if is_blank b then Gap 1
    else if b == 35 then Gap (1 + prefix_len is_comment_byte rest)
    else if b == 63 then variable rest
    else mark b

abbrev pub front_piece : List ℕ → Piece
front_piece [] = Fault
front_piece (b ∷ rest) = piece b rest

-- the tokens from the front on, and the first byte at fault where one stops them
pub record Lexed : Type 0 where
  pub tokens : List Lexeme
  pub fault : Option ℕ

abbrev pub with_first : Lexeme → Lexed → Lexed
with_first first others = record { tokens = first ∷ others.tokens; fault = others.fault }

-- what a text at this place gives: its first piece, and then what `others` gives, which is told how
-- many bytes after the first belong to the piece
abbrev pub from_piece : Piece → ℕ → List ℕ → (ℕ → Lexed) → Lexed
from_piece (Gap len) place text others = others (len - 1)
from_piece (Word kind len) place text others =
    with_first (record { kind = kind; text = take len text; start = place }) (others (len - 1))
from_piece Fault place text others = record { tokens = []; fault = Some place }

-- what a text that begins at this place gives; its first bytes may still belong to the piece
-- before, so many as `inside`
unfoldable pub lexed : ℕ → ℕ → List ℕ → Lexed
lexed inside place [] = record { tokens = []; fault = None }
lexed (suc inside) place (b ∷ rest) = lexed inside (suc place) rest
lexed zero place (b ∷ rest) = from_piece (piece b rest) place (b ∷ rest) (λ inside.
    lexed inside (suc place) rest)

-- what a text gives from this place on
abbrev pub lexed_from : List ℕ → ℕ → Lexed
lexed_from text place = lexed 0 place (drop place text)

abbrev pub nothing_lexed : Option ℕ → Lexed
nothing_lexed fault = record { tokens = []; fault = fault }

-- the place behind a token
abbrev pub behind : Token → ℕ
behind t = t.start + length t.text.now

-- what a text goes on with from this place on: its next token, the first byte at fault, or nothing
abbrev pub IsNext : List ℕ → ℕ → Next → Type 0
IsNext text from (next.Token t) =
    (lexed_from text from ≡ with_first (lexeme t) (lexed_from text (behind t))) × (from < behind t)
    × (behind t ≤ length text)
IsNext text from (next.Fault place) = lexed_from text from ≡ nothing_lexed (Some place)
IsNext text from next.End = lexed_from text from ≡ nothing_lexed None

-- the tokens are slices of the text, one behind the other from this place on
abbrev pub AreSlices : List ℕ → ℕ → List Lexeme → Type 0
AreSlices text from [] = Unit {0}
AreSlices text from (l ∷ ls) = (from ≤ l.start) × (0 < length l.text)
    × (l.text ≡ take (length l.text) (drop l.start text))
    × AreSlices text (l.start + length l.text) ls

abbrev pub Scans : {X : Type 0} → (X → List Lexeme) → Result X ScanFault → Lexed → Type 0
Scans view (Ok tokens) read = read ≡ record { tokens = view tokens; fault = None }
Scans view (Err (faults.Bad place)) read = read.fault ≡ Some place
Scans view (Err faults.Memory) read = Unit {0}

-- a piece lies within so many bytes
abbrev pub LiesWithin : ℕ → Piece → Type 0
LiesWithin room (Gap len) = (1 ≤ len) × (len ≤ room)
LiesWithin room (Word kind len) = (1 ≤ len) × (len ≤ room)
LiesWithin room Fault = Unit {0}
