-- The tokens are slices of the text, one behind the other.
use Rattle.std.proofs.Common.{◌≡◌, ℕ, zero, suc, ◌+◌, ◌-◌, ◌≤◌, Bool, true, false, cond, leb, List}
use Rattle.std.proofs.Common.{[], ◌∷◌, length, take, drop, refl, ap, ◌∙◌, arith, eqb, drop-drop}
use Rattle.std.specs.List.{prefix_len}
use Rattle.std.proofs.lemmas.List.{length-take-le}
use Rattle.std.proofs.lemmas.List.Sums.{prefix_len-le-length}
use Rattle.dl_syntax.specs.Names.{is_letter, is_name_byte}
use Rattle.text_scan.specs.Bytes.{is_blank, is_comment_byte}
use Rattle.text_scan.specs.declared.Piece.{Piece}
use Rattle.text_scan.specs.declared.Piece.TheVariants.{Gap, Word, Fault}
use Rattle.text_scan.specs.declared.TokenKind.{TokenKind}
use Rattle.text_scan.specs.declared.TokenKind.TheVariants.{Name, Var, Open, Close, Square, Unsquare}
use Rattle.text_scan.specs.declared.TokenKind.TheVariants.{Comma, Semi, Equal, Bar, Amp}
use Rattle.text_scan.specs.Lexing.{Lexeme, Lexed, lexed, piece, named, variable, mark, LiesWithin}
use Rattle.text_scan.specs.Lexing.{from_piece, AreSlices}

choose : {X : Type 0} (P : X → Type 0) (b : Bool) (x y : X) → P x → P y → P (cond b x y)
choose P true x y h k = h
choose P false x y h k = k

pub named_within : (room : ℕ) (kind : TokenKind) (before : ℕ) (rest : List ℕ) → 1 ≤ before
    → before + length rest ≤ room → LiesWithin room (named kind before rest)
named_within room kind before rest some le =
    choose (LiesWithin room) (leb (1 + prefix_len is_name_byte rest) 64) _ _
    (omega arith, omega (arith, prefix_len-le-length is_name_byte rest)) tt

variable_within : (room : ℕ) (rest : List ℕ) → 1 + length rest ≤ room
    → LiesWithin room (variable rest)
variable_within room [] le = tt
variable_within room (b ∷ rest) le =
    choose (LiesWithin room) (is_letter b) _ _
    (named_within room Var 2 rest (omega arith) (omega arith)) tt

pub mark_within : (room b : ℕ) → 1 ≤ room → LiesWithin room (mark b)
mark_within room b le =
    let one : (kind : TokenKind) → LiesWithin room (Word kind 1) = λ kind. (omega arith, le) in
    let P : Piece → Type 0 = LiesWithin room in
    choose P (eqb b 40) _ _ (one Open)
    (choose P (eqb b 41) _ _ (one Close)
    (choose P (eqb b 91) _ _ (one Square)
    (choose P (eqb b 93) _ _ (one Unsquare)
    (choose P (eqb b 44) _ _ (one Comma)
    (choose P (eqb b 59) _ _ (one Semi)
    (choose P (eqb b 61) _ _ (one Equal)
    (choose P (eqb b 124) _ _ (one Bar) (choose P (eqb b 38) _ _ (one Amp) tt))))))))

piece_within : (b : ℕ) (rest : List ℕ) → LiesWithin (1 + length rest) (piece b rest)
piece_within b rest =
    let P : Piece → Type 0 = LiesWithin (1 + length rest) in
    choose P (is_letter b) _ _ (named_within (1 + length rest) Name 1 rest (omega arith)
    (omega arith))
    (choose P (is_blank b) _ _ (omega arith, omega arith)
    (choose P (eqb b 35) _ _ (omega arith, omega (arith, prefix_len-le-length is_comment_byte rest))
    (choose P (eqb b 63) _ _ (variable_within (1 + length rest) rest (omega arith))
    (mark_within (1 + length rest) b (omega arith)))))

-- slices from a place on are slices from an earlier place on
from_earlier : (text : List ℕ) (from earlier : ℕ) (ls : List Lexeme) → earlier ≤ from
    → AreSlices text from ls → AreSlices text earlier ls
from_earlier text from earlier [] le h = tt
from_earlier text from earlier (l ∷ ls) le h = (omega (arith, h.0), h.1, h.2, h.3)

piece_slices : (text : List ℕ) (place b : ℕ) (rest : List ℕ) (p : Piece) (others : ℕ → Lexed)
    → b ∷ rest ≡ drop place text → LiesWithin (1 + length rest) p
    → ((inside : ℕ) → AreSlices text (suc place + inside) (others inside).tokens)
    → AreSlices text place (from_piece p place (b ∷ rest) others).tokens
piece_slices text place b rest (Gap len) others e h later =
    from_earlier text (suc place + (len - 1)) place (others (len - 1)).tokens (omega arith)
    (later (len - 1))
piece_slices text place b rest (Word kind len) others e h later =
    let len_is : length (take len (b ∷ rest)) ≡ len =
    length-take-le len (b ∷ rest) (omega (arith, h.1)) in
    let next : suc place + (len - 1) ≡ place + length (take len (b ∷ rest)) =
    omega (arith, len_is, h.0) in (
      omega arith,
      omega (arith, len_is, h.0),
      (rw len_is (ap (take len) e)),
      from_earlier text (suc place + (len - 1)) (place + length (take len (b ∷ rest)))
          (others (len - 1)).tokens (omega (arith, next)) (later (len - 1)),
    )
piece_slices text place b rest Fault others e h later = tt

rest_of : (text : List ℕ) (place b : ℕ) (rest : List ℕ) → b ∷ rest ≡ drop place text
    → rest ≡ drop (suc place) text
rest_of text place b rest e = let f : place + 1 ≡ suc place = omega arith in
    ap (drop 1) e ∙ drop-drop 1 place text ∙ ap (λ (n : ℕ). drop n text) f

slices_from : (bytes text : List ℕ) (inside place : ℕ) → bytes ≡ drop place text
    → AreSlices text (place + inside) (lexed inside place bytes).tokens
unfolding lexed
slices_from [] text inside place e = tt
slices_from (b ∷ rest) text zero place e =
    from_earlier text place (place + 0) _ (omega arith)
    (piece_slices text place b rest (piece b rest) (λ inside.
    lexed inside (suc place) rest) e (piece_within b rest) (λ inside.
    slices_from rest text inside (suc place) (rest_of text place b rest e)))
slices_from (b ∷ rest) text (suc inside) place e =
    from_earlier text (suc place + inside) (place + suc inside) _ (omega arith)
    (slices_from rest text inside (suc place) (rest_of text place b rest e))

pub are_slices : (text : List ℕ) → AreSlices text 0 (lexed 0 0 text).tokens
are_slices text = slices_from text text 0 0 refl
