-- The tokens of a document.
use Rattle.std.specs.Prelude.{ℕ, zero, suc, ◌+◌, ◌-◌, ◌≤◌, ◌==◌, ◌||◌, not, Bool, true, false}
use Rattle.std.specs.Prelude.{if◌then◌else◌, List, [], ◌∷◌, take, drop, Option, Some, None}
use Rattle.std.specs.List.{prefix_len}
use Rattle.std.specs.Option.{option_map}
use Rattle.text_scan.specs.Bytes.{is_blank, is_comment_byte}
use Rattle.owl_tokens.specs.declared.tokens.TokenKind.{TokenKind}
use Rattle.owl_tokens.specs.declared.tokens.TokenKind.TheVariants as kind
use Rattle.owl_tokens.specs.declared.tokens.Token.{Token}
use Rattle.owl_tokens.specs.declared.tokens.Piece.{Piece}
use Rattle.owl_tokens.specs.declared.tokens.Piece.TheVariants as piece_of
use Rattle.owl_tokens.specs.declared.tokens.Quote.{Quote}
use Rattle.owl_tokens.specs.declared.tokens.Quote.TheVariants as quote

-- a token with its text
pub record Lexeme : Type 0 where
  pub kind : TokenKind
  pub text : List ℕ
  pub start : ℕ

-- the token in the text
abbrev pub lexeme : List ℕ → Token → Lexeme
lexeme text t = record {
  kind = t.kind;
  text = take (t.end - t.start) (drop t.start text);
  start =
      t.start;
}

-- a word goes on with any byte but blanks, `#`, `"`, `<`, `(`, `)` and `=`
abbrev pub is_word_byte : ℕ → Bool
is_word_byte b = not (is_blank b || b == 35 || b == 34 || b == 60 || b == 40 || b == 41 || b == 61)

-- an IRI goes on with any byte but blanks and `>`
abbrev pub is_iri_byte : ℕ → Bool
is_iri_byte b = not (b == 62 || is_blank b)

abbrev pub begins_with : ℕ → List ℕ → Bool
begins_with b [] = false
begins_with b (c ∷ rest) = c == b

-- an IRI behind its first bracket ends at the next `>`, with no blank before
abbrev pub iri : List ℕ → Piece
iri rest = if begins_with 62 (drop (prefix_len is_iri_byte rest) rest) then piece_of.Token kind.Iri
    (prefix_len is_iri_byte rest + 2) else piece_of.Fault

-- what a byte of a string means, behind a backslash that counts or not
abbrev pub quote_step : Bool → ℕ → Quote
quote_step true b = if b == 34 || b == 92 then quote.GoesOn false else quote.Fault
quote_step false b = if b == 34 then quote.Closes else quote.GoesOn (b == 92)

abbrev pub counted : Quote → (Bool → Option ℕ) → Option ℕ
counted quote.Closes more = Some 1
counted (quote.GoesOn escaped) more = option_map (λ n. n + 1) (more escaped)
counted quote.Fault more = None

-- how many bytes a string has behind its first quote, or behind a backslash in it; none where it
-- isn't closed, or a backslash stands before another byte than `"` and `\`
unfoldable pub string_len : Bool → List ℕ → Option ℕ
string_len escaped [] = None
string_len escaped (b ∷ rest) = counted (quote_step escaped b) (λ next. string_len next rest)

abbrev pub quoted : Option ℕ → Piece
quoted None = piece_of.Fault
quoted (Some len) = piece_of.Token kind.Text (len + 1)

-- what a text begins with, and its length: a word and a comment are taken as long as they go
abbrev pub piece : ℕ → List ℕ → Piece
piece b rest =
    if is_blank b then piece_of.Gap 1
    else if b == 35 then piece_of.Gap (1 + prefix_len is_comment_byte rest)
    else if b == 40 then piece_of.Token kind.Open 1
    else if b == 41 then piece_of.Token kind.Close 1
    else if b == 61 then piece_of.Token kind.Equal 1
    else if b == 60 then iri rest
    else if b == 34 then quoted (string_len false rest)
    else piece_of.Token kind.Word (1 + prefix_len is_word_byte rest)

abbrev pub front_piece : List ℕ → Piece
front_piece [] = piece_of.Fault
front_piece (b ∷ rest) = piece b rest

-- what a text at this place gives: its first piece, and then what `others` gives, which is told how
-- many bytes after the first belong to the piece
abbrev pub from_piece : Piece → ℕ → List ℕ → (ℕ → List Lexeme) → List Lexeme
from_piece (piece_of.Gap len) place text others = others (len - 1)
from_piece (piece_of.Token kind len) place text others =
    record { kind = kind; text = take len text; start = place } ∷ others (len - 1)
from_piece piece_of.Fault place text others =
    record { kind = kind.Fault; text = []; start = place } ∷ []

-- the tokens of a text that begins at this place, up to the first fault; its first bytes may still
-- belong to the piece before, so many as `inside`
unfoldable pub lexed : ℕ → ℕ → List ℕ → List Lexeme
lexed inside place [] = []
lexed (suc inside) place (b ∷ rest) = lexed inside (suc place) rest
lexed zero place (b ∷ rest) = from_piece (piece b rest) place (b ∷ rest) (λ inside.
    lexed inside (suc place) rest)

-- a piece lies within so many bytes
abbrev pub LiesWithin : ℕ → Piece → Type 0
LiesWithin room (piece_of.Gap len) = (1 ≤ len) × (len ≤ room)
LiesWithin room (piece_of.Token kind len) = (1 ≤ len) × (len ≤ room)
LiesWithin room piece_of.Fault = Unit {0}
