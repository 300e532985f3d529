-- Reading one piece after the other, as a loop does.
use Rattle.std.proofs.Common.{◌≡◌, ℕ, zero, suc, ◌+◌, ◌-◌, ◌≤◌, ◌<◌, List, [], ◌∷◌, ◌++◌, length}
use Rattle.std.proofs.Common.{take, drop, Some, None, refl, ap, ◌∙◌, append_assoc, arith, add-zero}
use Rattle.std.proofs.Common.{drop-drop, length-drop}
use Rattle.std.proofs.lemmas.List.{length-take-le}
use Rattle.text_scan.specs.declared.Piece.{Piece}
use Rattle.text_scan.specs.declared.Piece.TheVariants.{Gap, Word, Fault}
use Rattle.text_scan.specs.declared.TokenKind.{TokenKind}
use Rattle.text_scan.specs.Lexing.{Lexeme, Lexed, lexed, lexed_from, nothing_lexed, front_piece}
use Rattle.text_scan.specs.Lexing.{with_first, from_piece}

-- what was read before, and what is still read
abbrev pub with_front : List Lexeme → Lexed → Lexed
with_front front others = record { tokens = front ++ others.tokens; fault = others.fault }

-- the rest of a piece is passed over
passes : (inside place : ℕ) (bytes : List ℕ)
    → lexed inside place bytes ≡ lexed 0 (place + inside) (drop inside bytes)
unfolding lexed
passes zero place bytes = rw add-zero refl
passes (suc inside) place [] = refl
passes (suc inside) place (b ∷ rest) =
    let e : suc place + inside ≡ place + suc inside = omega arith in
    passes inside (suc place) rest ∙ ap (λ (p : ℕ). lexed 0 p (drop inside rest)) e

-- the bytes after the first of a piece
after_first_byte : (len place b : ℕ) (rest : List ℕ) → 1 ≤ len
    → lexed (len - 1) (suc place) rest ≡ lexed 0 (place + len) (drop len (b ∷ rest))
after_first_byte zero place b rest h = absurd (omega arith)
after_first_byte (suc n) place b rest h =
    let e : suc n - 1 ≡ n = omega arith in
    let f : suc place + n ≡ place + suc n = omega arith in
    rw e (passes n (suc place) rest ∙ ap (λ (p : ℕ). lexed 0 p (drop n rest)) f)

pub after_gap : (len place : ℕ) (bytes : List ℕ) → front_piece bytes ≡ Gap len → 1 ≤ len
    → lexed 0 place bytes ≡ lexed 0 (place + len) (drop len bytes)
unfolding lexed
after_gap len place [] h one = absurd cc
after_gap len place (b ∷ rest) h one =
    ap (λ (p : Piece). from_piece p place (b ∷ rest) (λ inside. lexed inside (suc place) rest))
    h ∙ after_first_byte len place b rest one

pub after_word : (kind : TokenKind) (len place : ℕ) (bytes : List ℕ)
    → front_piece bytes ≡ Word kind len → 1 ≤ len
    → lexed 0 place bytes ≡ with_first (record {
      kind = kind;
      text = take len bytes;
      start =
          place;
    }) (lexed 0 (place + len) (drop len bytes))
unfolding lexed
after_word kind len place [] h one = absurd cc
after_word kind len place (b ∷ rest) h one =
    ap (λ (p : Piece). from_piece p place (b ∷ rest) (λ inside. lexed inside (suc place) rest)) h
    ∙ ap (λ (others : Lexed). with_first (record {
      kind = kind;
      text = take len (b ∷ rest);
      start =
          place;
    }) others) (after_first_byte len place b rest one)

pub at_fault : (place : ℕ) (bytes : List ℕ) → front_piece bytes ≡ Fault → 0 < length bytes
    → lexed 0 place bytes ≡ record { tokens = []; fault = Some place }
unfolding lexed
at_fault place [] h some = absurd (omega arith)
at_fault place (b ∷ rest) h some =
    ap (λ (p : Piece). from_piece p place (b ∷ rest) (λ inside. lexed inside (suc place) rest)) h

pub at_end : (place : ℕ) (bytes : List ℕ) → length bytes ≤ 0
    → lexed 0 place bytes ≡ record { tokens = []; fault = None }
unfolding lexed
at_end place [] none = refl
at_end place (b ∷ rest) none = absurd (omega arith)

pub with_front-with_first : (front : List Lexeme) (first : Lexeme) (read : Lexed)
    → with_front front (with_first first read) ≡ with_front (front ++ first ∷ []) read
with_front-with_first front first others =
    ap (λ (ls : List Lexeme). let l : Lexed = record { tokens = ls; fault = others.fault } in
    l) (simp append_assoc)

-- ---- what a text gives from a place on

pub gap_passed : (len place : ℕ) (text : List ℕ) → front_piece (drop place text) ≡ Gap len → 1 ≤ len
    → lexed_from text place ≡ lexed_from text (place + len)
gap_passed len place text h one =
    after_gap len place (drop place text) h one ∙ ap (λ (bytes : List ℕ).
    lexed 0 (place + len) bytes) (drop-drop len place text)

pub word_first : (kind : TokenKind) (len place : ℕ) (text : List ℕ)
    → front_piece (drop place text) ≡ Word kind len → 1 ≤ len
    → lexed_from text place ≡ with_first (record {
      kind = kind;
      text =
          take len (drop place text);
      start = place;
    }) (lexed_from text (place + len))
word_first kind len place text h one =
    let first : Lexeme = record { kind = kind; text = take len (drop place text); start = place } in
    after_word kind len place (drop place text) h one ∙ ap (λ (bytes : List ℕ).
    with_first first (lexed 0 (place + len) bytes)) (drop-drop len place text)

pub fault_there : (place : ℕ) (text : List ℕ) → front_piece (drop place text) ≡ Fault
    → place < length text → lexed_from text place ≡ nothing_lexed (Some place)
fault_there place text h lt =
    at_fault place (drop place text) h (omega (arith, length-drop place text))

pub nothing_left : (place : ℕ) (text : List ℕ) → length text ≤ place
    → lexed_from text place ≡ nothing_lexed None
nothing_left place text le = at_end place (drop place text) (omega (arith, length-drop place text))

-- a token's length is that of its text
pub length_of_word : (len place : ℕ) (text : List ℕ) → len ≤ length text - place
    → length (take len (drop place text)) ≡ len
length_of_word len place text le =
    length-take-le len (drop place text) (omega (arith, length-drop place text))
