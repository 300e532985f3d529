-- The token that stands right at a place.
use Rattle.std.proofs.Common.{◌≡◌, ℕ, suc, ◌+◌, ◌-◌, ◌≤◌, ◌<◌, Bool, true, false, leb, eqb, List}
use Rattle.std.proofs.Common.{[], ◌∷◌, length, take, drop, get_or, Some, None, refl, sym, ap, subst}
use Rattle.std.proofs.Common.{◌∙◌, arith, lit≤, add-one, drop-cons, length-drop}
use Rattle.std.specs.Prelude.{◌||◌, Option}
use Rattle.std.specs.List.{prefix_len}
use Rattle.std.proofs.lemmas.Bool.{cond_both, cond-true}
use Rattle.dl_syntax.specs.Names.{is_letter, is_name_byte}
use Rattle.text_scan.specs.Bytes.{is_blank}
use Rattle.text_scan.specs.declared.Piece.{Piece}
use Rattle.text_scan.specs.declared.Piece.TheVariants.{Gap, Word, Fault}
use Rattle.text_scan.specs.declared.Token.{Token}
use Rattle.text_scan.specs.declared.Next.TheVariants as next
use Rattle.text_scan.specs.declared.TokenKind.{TokenKind}
use Rattle.text_scan.specs.declared.TokenKind.TheVariants.{Name, Var}
use Rattle.text_scan.specs.Lexing.{Lexeme, Lexed, lexeme, lexed, lexed_from, piece, front_piece}
use Rattle.text_scan.specs.Lexing.{named, variable, mark, with_first, from_piece, behind, IsNext}
use Rattle.text_scan.specs.Expecting.{IsMark, IsNextOf}
use Rattle.text_scan.proofs.Lexing.{gap_passed, word_first, length_of_word}

-- the token of a piece that stands there
pub word_next : (text : List ℕ) (kind : TokenKind) (from len : ℕ) (t : Token)
    → front_piece (drop from text) ≡ Word kind len → 1 ≤ len → len ≤ length text - from
    → lexeme t ≡ record { kind = kind; text = take len (drop from text); start = from }
    → IsNext text from (next.Token t)
word_next text kind from len t first one few is =
    let start : t.start ≡ from = ap (λ (l : Lexeme). l.start) is in
    let long : length t.text.now ≡ len =
    ap (λ (l : Lexeme). length l.text) is ∙ length_of_word len from text few in
    let end : behind t ≡ from + len = omega (arith, start, long) in (
      word_first kind len from text first one
          ∙ ap (λ (l : Lexeme). with_first l (lexed_from text (from + len))) (sym is)
          ∙ ap (λ (p : ℕ). with_first (lexeme t) (lexed_from text p)) (sym end),
      omega (arith, end),
      omega (arith, end),
    )

-- ---- the piece that stands there

pub piece_there : (text : List ℕ) (from : ℕ) → from < length text
    → front_piece (drop from text) ≡ piece (get_or text from 0) (drop (from + 1) text)
piece_there text from lt = rw (add-one, drop-cons text from 0) refl

abbrev IsNoGap : Piece → Type 0
IsNoGap (Gap len) = ⊥
IsNoGap _ = Unit {0}

-- a first token is of the kind of the piece that stands there
first_kind : (p : Piece) (place : ℕ) (bytes : List ℕ) (others : ℕ
    → Lexed) (first : Lexeme) (rest : Lexed) → IsNoGap p
    → from_piece p place bytes others ≡ with_first first rest
    → (len : ℕ) × (p ≡ Word first.kind len)
first_kind (Gap len) place bytes others first rest no_gap is = absurd no_gap
first_kind (Word kind len) place bytes others first rest no_gap is =
    let here : Lexeme = record { kind = kind; text = take len bytes; start = place } in
    let tokens : here ∷ (others (len - 1)).tokens ≡ first ∷ rest.tokens =
    ap (λ (read : Lexed). read.tokens) is in
    let same : here ≡ first = cc in
    (len, ap (λ (k : TokenKind). Word k len) (ap (λ (l : Lexeme). l.kind) same))
first_kind Fault place bytes others first rest no_gap is =
    let tokens : [] ≡ first ∷ rest.tokens = ap (λ (read : Lexed). read.tokens) is in absurd cc

bytes_first : (place : ℕ) (bytes : List ℕ) (first : Lexeme) (rest : Lexed) → 0 < length bytes
    → IsNoGap (front_piece bytes) → lexed 0 place bytes ≡ with_first first rest
    → (len : ℕ) × (front_piece bytes ≡ Word first.kind len)
unfolding lexed
bytes_first place [] first rest some no_gap is = absurd (omega arith)
bytes_first place (b ∷ bytes) first rest some no_gap is =
    first_kind (piece b bytes) place (b ∷ bytes) (λ inside.
    lexed inside (suc place) bytes) first rest no_gap is

pub text_first : (text : List ℕ) (from : ℕ) (first : Lexeme) (rest : Lexed) → from < length text
    → IsNoGap (front_piece (drop from text)) → lexed_from text from ≡ with_first first rest
    → (len : ℕ) × (front_piece (drop from text) ≡ Word first.kind len)
text_first text from first rest lt no_gap is =
    bytes_first from (drop from text) first rest (omega (arith, length-drop from text)) no_gap is

-- ---- a blank

pub blank_passed : (text : List ℕ) (from : ℕ) → from < length text → get_or text from 0 ≡ 32
    → lexed_from text from ≡ lexed_from text (from + 1)
blank_passed text from lt blank =
    gap_passed 1 from text (piece_there text from lt ∙ ap (λ (b : ℕ).
    piece b (drop (from + 1) text)) blank) (lit≤ tt)

-- what comes next behind a gap
pub later : (text : List ℕ) (kind : TokenKind) (from at : ℕ) (found : Option Token)
    → lexed_from text from ≡ lexed_from text at → from ≤ at → IsNextOf kind text at found
    → IsNextOf kind text from found
later text kind from at (Some t) same le (is, there) =
    (is, (same ∙ there.0, omega (arith, there.1), there.2))
later text kind from at None same le other = λ first rest e. other first rest (sym same ∙ e)

-- ---- names

letter_piece : (b : ℕ) (rest : List ℕ) → is_letter b ≡ true → piece b rest ≡ named Name 1 rest
letter_piece b rest letter = cond-true (is_letter b) _ _ letter

pub name_there : (text : List ℕ) (from : ℕ) (p : Piece) → from < length text
    → is_letter (get_or text from 0) ≡ true → p ≡ named Name 1 (drop (from + 1) text)
    → front_piece (drop from text) ≡ p
name_there text from p lt letter is =
    piece_there text from lt ∙ letter_piece (get_or text from 0) (drop (from + 1) text) letter ∙ sym
    is

abbrev pub IsNamed : Piece → Type 0
IsNamed (Gap len) = ⊥
IsNamed (Word kind len) = kind ≡ Name
IsNamed Fault = Unit {0}

pub named_name : (rest : List ℕ) → IsNamed (named Name 1 rest)
named_name rest = cond_both (leb (1 + prefix_len is_name_byte rest) 64)
    (Word Name (1 + prefix_len is_name_byte rest)) Fault IsNamed (λ few. refl) (λ many. tt)

-- no token comes first where a fault stands
pub fault_first : (text : List ℕ) (from : ℕ) → from < length text
    → front_piece (drop from text) ≡ Fault → (first : Lexeme) (rest : Lexed)
    → lexed_from text from ≡ with_first first rest → ⊥
fault_first text from lt is first rest same =
    let found = text_first text from first rest lt (subst IsNoGap (sym is) tt) same in
    let e : Fault ≡ Word first.kind found.0 = sym is ∙ found.1 in cc

-- ---- marks

pub mark_piece : (b : ℕ) (rest : List ℕ) (kind : TokenKind) (len : ℕ) → mark b ≡ Word kind len
    → piece b rest ≡ Word kind len
mark_piece b rest kind len =
    let P : Piece → Type 0 = λ p. p ≡ Word kind len → piece b rest ≡ Word kind len in
    let at : (n : ℕ) → eqb b n ≡ true → piece n rest ≡ Word kind len
    → piece b rest ≡ Word kind len = λ n test there.
    let same : b ≡ n = grind (arith, test) in
    subst (λ (m : ℕ). piece m rest ≡ Word kind len) (sym same) there in
    cond_both (eqb b 40) _ _ P (at 40) (λ _.
    cond_both (eqb b 41) _ _ P (at 41) (λ _.
    cond_both (eqb b 91) _ _ P (at 91) (λ _.
    cond_both (eqb b 93) _ _ P (at 93) (λ _.
    cond_both (eqb b 44) _ _ P (at 44) (λ _.
    cond_both (eqb b 59) _ _ P (at 59) (λ _.
    cond_both (eqb b 61) _ _ P (at 61) (λ _.
    cond_both (eqb b 124) _ _ P (at 124) (λ _.
    cond_both (eqb b 38) _ _ P (at 38) (λ _. λ e. absurd cc)))))))))

module _ (kind : TokenKind) (is_mark : IsMark kind) where
  no_name : Name ≡ kind → ⊥
  no_name same = subst IsMark (sym same) is_mark

  no_variable : Var ≡ kind → ⊥
  no_variable same = subst IsMark (sym same) is_mark

  -- no gap, and of this kind only where the byte is the mark of the kind
  abbrev IsMarkOnly : ℕ → Piece → Type 0
  IsMarkOnly b p = IsNoGap p × ((len : ℕ) → p ≡ Word kind len → mark b ≡ Word kind len)

  names_only : (b before : ℕ) (rest : List ℕ) → IsMarkOnly b (named Name before rest)
  names_only b before rest =
      cond_both (leb (1 + prefix_len is_name_byte rest) 64) _ _ (IsMarkOnly b) (λ few. (
        tt,
        λ len e. let same : Name ≡ kind = cc in
            absurd (no_name same),
      )) (λ many. (tt, λ len e. absurd cc))

  variables_only : (b : ℕ) (rest : List ℕ) → IsMarkOnly b (variable rest)
  variables_only b [] = (tt, λ len e. absurd cc)
  variables_only b (c ∷ rest) = cond_both (is_letter c) _ _ (IsMarkOnly b)
      (λ letter. cond_both (leb (1 + prefix_len is_name_byte rest) 64) _ _ (IsMarkOnly b) (λ few.
      (tt, λ len e. let same : Var ≡ kind = cc in absurd (no_variable same))) (λ many.
      (tt, λ len e. absurd cc)))
      (λ other. (tt, λ len e. absurd cc))

  no_gap_mark : (b : ℕ) → IsNoGap (mark b)
  no_gap_mark b = cond_both (eqb b 40) _ _ IsNoGap (λ _. tt) (λ _.
      cond_both (eqb b 41) _ _ IsNoGap (λ _. tt) (λ _.
      cond_both (eqb b 91) _ _ IsNoGap (λ _. tt) (λ _.
      cond_both (eqb b 93) _ _ IsNoGap (λ _. tt) (λ _.
      cond_both (eqb b 44) _ _ IsNoGap (λ _. tt) (λ _.
      cond_both (eqb b 59) _ _ IsNoGap (λ _. tt) (λ _.
      cond_both (eqb b 61) _ _ IsNoGap (λ _. tt) (λ _.
      cond_both (eqb b 124) _ _ IsNoGap (λ _. tt) (λ _.
      cond_both (eqb b 38) _ _ IsNoGap (λ _. tt) (λ _. tt)))))))))

  piece_only : (b : ℕ) (rest : List ℕ) → is_blank b ≡ false → eqb b 35 ≡ false
      → IsMarkOnly b (piece b rest)
  piece_only b rest no_blank no_comment =
      cond_both (is_letter b) _ _ (IsMarkOnly b) (λ letter. names_only b 1 rest)
      (λ _. cond_both (is_blank b) _ _ (IsMarkOnly b) (λ blank. absurd cc)
      (λ _. cond_both (eqb b 35) _ _ (IsMarkOnly b) (λ comment. absurd cc)
      (λ _. cond_both (eqb b 63) _ _ (IsMarkOnly b) (λ question. variables_only b rest)
      (λ _. (no_gap_mark b, λ len e. e)))))

  -- no token of this kind comes first where the byte is another
  pub no_mark : (text : List ℕ) (from : ℕ) → from < length text
      → is_blank (get_or text from 0) ≡ false → eqb (get_or text from 0) 35 ≡ false
      → ((len : ℕ) → mark (get_or text from 0) ≡ Word kind len → ⊥)
      → (first : Lexeme) (rest : Lexed) → lexed_from text from ≡ with_first first rest
      → first.kind ≡ kind → ⊥
  no_mark text from lt no_blank no_comment other first rest is same =
      let there = piece_there text from lt in
      let only = piece_only (get_or text from 0) (drop (from + 1) text) no_blank no_comment in
      let found = text_first text from first rest lt (subst IsNoGap (sym there) only.0) is in
      let here : piece (get_or text from 0) (drop (from + 1) text) ≡ Word kind found.0 =
      sym there ∙ found.1 ∙ ap (λ (k : TokenKind). Word k found.0) same in
      other found.0 (only.1 found.0 here)

pub neither : (a b : Bool) → false ≡ (a || b) → (a ≡ false) × (b ≡ false)
neither true b h = absurd cc
neither false b h = (refl, sym h)
