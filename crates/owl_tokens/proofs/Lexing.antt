-- Reading one piece after the other, as a loop does.
use Rattle.std.proofs.Common.{◌≡◌, ℕ, zero, suc, ◌+◌, ◌-◌, ◌≤◌, ◌<◌, Bool, List, [], ◌∷◌, ◌++◌}
use Rattle.std.proofs.Common.{length, take, drop, get_or, Option, Some, None, refl, sym, ap, ◌∙◌}
use Rattle.std.proofs.Common.{append_assoc, arith, add-zero, drop-drop, length-drop, drop-cons}
use Rattle.std.specs.Option.{option_map}
use Rattle.owl_tokens.specs.declared.tokens.Piece.{Piece}
use Rattle.owl_tokens.specs.declared.tokens.Piece.TheVariants as piece_of
use Rattle.owl_tokens.specs.declared.tokens.TokenKind.{TokenKind}
use Rattle.owl_tokens.specs.declared.tokens.TokenKind.TheVariants as kind
use Rattle.owl_tokens.specs.declared.tokens.Quote.{Quote}
use Rattle.std.specs.Prelude.{map}
use Rattle.std.proofs.lemmas.List.{map-append}
use Rattle.owl_tokens.specs.declared.tokens.Token.{Token}
use Rattle.owl_tokens.specs.Tokens.{Lexeme, lexeme, lexed, front_piece, from_piece, quote_step}
use Rattle.owl_tokens.specs.Tokens.{counted, string_len}

-- ---- strings

pub string_first : (escaped : Bool) (place : ℕ) (text : List ℕ) (step : Quote) → place < length text
    → step ≡ quote_step escaped (get_or text place 0)
    → string_len escaped (drop place text)
    ≡ counted step (λ next. string_len next (drop (suc place) text))
unfolding string_len
string_first escaped place text step lt is =
    ap (string_len escaped) (drop-cons text place 0 lt) ∙ ap (λ (s : Quote).
    counted s (λ next. string_len next (drop (suc place) text))) (sym is)

pub string_open : (escaped : Bool) (place : ℕ) (text : List ℕ) → length text ≤ place
    → string_len escaped (drop place text) ≡ None
unfolding string_len
string_open escaped place text le = go (drop place text) (omega (arith, length-drop place text))
  where
    go : (bytes : List ℕ) → length bytes ≤ 0 → string_len escaped bytes ≡ None
    go [] none = refl
    go (b ∷ rest) none = absurd (omega arith)

-- so many bytes were read before
abbrev pub behind : ℕ → Option ℕ → Option ℕ
behind n len = option_map (λ k. n + k) len

pub behind_none : (len : Option ℕ) → behind 0 len ≡ len
behind_none None = refl
behind_none (Some k) = ap Some (omega arith)

pub counted_on : (n m : ℕ) (len : Option ℕ) → n + 1 ≡ m
    → behind n (option_map (λ k. k + 1) len) ≡ behind m len
counted_on n m None e = refl
counted_on n m (Some k) e = ap Some (omega arith)

-- ---- tokens

-- the rest of a piece is passed over
passes : (inside place : ℕ) (bytes : List ℕ)
    → lexed inside place bytes ≡ lexed 0 (place + inside) (drop inside bytes)
unfolding lexed
passes zero place bytes = rw add-zero refl
passes (suc inside) place [] = refl
passes (suc inside) place (b ∷ rest) =
    let e : suc place + inside ≡ place + suc inside = omega arith in
    passes inside (suc place) rest ∙ ap (λ (p : ℕ). lexed 0 p (drop inside rest)) e

-- the bytes after the first of a piece
after_first_byte : (len place b : ℕ) (rest : List ℕ) → 1 ≤ len
    → lexed (len - 1) (suc place) rest ≡ lexed 0 (place + len) (drop len (b ∷ rest))
after_first_byte zero place b rest h = absurd (omega arith)
after_first_byte (suc n) place b rest h =
    let e : suc n - 1 ≡ n = omega arith in
    let f : suc place + n ≡ place + suc n = omega arith in
    rw e (passes n (suc place) rest ∙ ap (λ (p : ℕ). lexed 0 p (drop n rest)) f)

after_gap : (len place : ℕ) (bytes : List ℕ) → front_piece bytes ≡ piece_of.Gap len → 1 ≤ len
    → lexed 0 place bytes ≡ lexed 0 (place + len) (drop len bytes)
unfolding lexed
after_gap len place [] h one = absurd cc
after_gap len place (b ∷ rest) h one =
    ap (λ (p : Piece). from_piece p place (b ∷ rest) (λ inside. lexed inside (suc place) rest))
    h ∙ after_first_byte len place b rest one

after_token : (kind : TokenKind) (len place : ℕ) (bytes : List ℕ)
    → front_piece bytes ≡ piece_of.Token kind len → 1 ≤ len
    → lexed 0 place bytes ≡ record {
      kind = kind;
      text = take len bytes;
      start =
          place;
    } ∷ lexed 0 (place + len) (drop len bytes)
unfolding lexed
after_token kind len place [] h one = absurd cc
after_token kind len place (b ∷ rest) h one =
    ap (λ (p : Piece). from_piece p place (b ∷ rest) (λ inside. lexed inside (suc place) rest)) h
    ∙ ap (λ (others : List Lexeme). record {
      kind = kind;
      text = take len (b ∷ rest);
      start =
          place;
    } ∷ others) (after_first_byte len place b rest one)

fault : ℕ → Lexeme
fault place = record { kind = kind.Fault; text = []; start = place }

at_fault : (place : ℕ) (bytes : List ℕ) → front_piece bytes ≡ piece_of.Fault → 0 < length bytes
    → lexed 0 place bytes ≡ record { kind = kind.Fault; text = []; start = place } ∷ []
unfolding lexed
at_fault place [] h some = absurd (omega arith)
at_fault place (b ∷ rest) h some =
    ap (λ (p : Piece). from_piece p place (b ∷ rest) (λ inside. lexed inside (suc place) rest)) h

at_end : (place : ℕ) (bytes : List ℕ) → length bytes ≤ 0 → lexed 0 place bytes ≡ []
unfolding lexed
at_end place [] none = refl
at_end place (b ∷ rest) none = absurd (omega arith)

-- ---- what a text gives from a place on

pub gap_passed : (len place : ℕ) (text : List ℕ) → front_piece (drop place text) ≡ piece_of.Gap len
    → 1 ≤ len → lexed 0 place (drop place text) ≡ lexed 0 (place + len) (drop (place + len) text)
gap_passed len place text h one =
    after_gap len place (drop place text) h one ∙ ap (λ (bytes : List ℕ).
    lexed 0 (place + len) bytes) (drop-drop len place text)

pub token_first : (kind : TokenKind) (len place : ℕ) (text : List ℕ)
    → front_piece (drop place text) ≡ piece_of.Token kind len → 1 ≤ len
    → lexed 0 place (drop place text) ≡ record {
      kind = kind;
      text =
          take len (drop place text);
      start =
          place;
    } ∷ lexed 0 (place + len) (drop (place + len) text)
token_first kind len place text h one =
    let first : Lexeme = record { kind = kind; text = take len (drop place text); start = place } in
    after_token kind len place (drop place text) h one ∙ ap (λ (bytes : List ℕ).
    first ∷ lexed 0 (place + len) bytes) (drop-drop len place text)

pub fault_there : (place : ℕ) (text : List ℕ) → front_piece (drop place text) ≡ piece_of.Fault
    → place < length text → lexed 0 place (drop place text) ≡ record {
      kind = kind.Fault;
      text =
          [];
      start = place;
    } ∷ []
fault_there place text h lt =
    at_fault place (drop place text) h (omega (arith, length-drop place text))

pub nothing_left : (place : ℕ) (text : List ℕ) → length text ≤ place
    → lexed 0 place (drop place text) ≡ []
nothing_left place text le = at_end place (drop place text) (omega (arith, length-drop place text))

-- ---- the tokens so far

pub pushed : (text : List ℕ) (front new : List Token) (token : Token) (rest : List Lexeme)
    → new ≡ front ++ token ∷ [] → map (lexeme text) new ++ rest
    ≡ map (lexeme text) front ++ lexeme text token ∷ rest
pushed text front new token rest is =
    ap (λ (ts : List Token). map (lexeme text) ts ++ rest) is
    ∙ ap (λ (ls : List Lexeme). ls ++ rest) (map-append (lexeme text) front (token ∷ []))
    ∙ append_assoc (map (lexeme text) front) (lexeme text token ∷ []) rest
