-- Each token is spelled as its kind says.
use Rattle.std.proofs.Common.{◌≡◌, ℕ, zero, suc, ◌+◌, ◌-◌, ◌≤◌, Bool, true, leb, eqb, List, [], ◌∷◌}
use Rattle.std.proofs.Common.{take, arith}
use Rattle.std.specs.Prelude.{IsTrue}
use Rattle.std.specs.List.{All, prefix_len}
use Rattle.std.proofs.lemmas.Bool.{cond_both}
use Rattle.std.proofs.lemmas.List.Elements.{All-nil, All-cons}
use Rattle.std.proofs.lemmas.List.Folds.{length-prefix_len}
use Rattle.dl_syntax.specs.Names.{is_letter, is_name_byte, IsName}
use Rattle.text_scan.specs.Bytes.{is_blank}
use Rattle.text_scan.specs.declared.Piece.{Piece}
use Rattle.text_scan.specs.declared.Piece.TheVariants.{Gap, Word, Fault}
use Rattle.text_scan.specs.declared.TokenKind.TheVariants.{Name, Var}
use Rattle.text_scan.specs.Lexing.{Lexed, lexed, piece, named, variable, mark, from_piece}
use Rattle.text_scan.specs.Spelling.{IsSpelling, IsSpelled}

abbrev IsPieceSpelled : List ℕ → Piece → Type 0
IsPieceSpelled text (Gap len) = Unit {0}
IsPieceSpelled text (Word kind len) = IsSpelling kind (take len text)
IsPieceSpelled text Fault = Unit {0}

-- the bytes that pass, from the front on
front_passes : (p : ℕ → Bool) (bytes : List ℕ)
    → All (λ b. IsTrue (p b)) (take (prefix_len p bytes) bytes)
front_passes p [] = All-nil (λ b. IsTrue (p b))
front_passes p (b ∷ rest) =
    let P : ℕ → Type 0 = λ n. All (λ c. IsTrue (p c)) (take n (b ∷ rest)) in
    cond_both (p b) (1 + prefix_len p rest) 0 P
    (λ passes. let e : 1 + prefix_len p rest ≡ suc (prefix_len p rest) = omega arith in
    rw e (All-cons (λ c. IsTrue (p c)) b (take (prefix_len p rest) rest) passes
    (front_passes p rest)))
    (λ fails. All-nil (λ c. IsTrue (p c)))

name_spelled : (b : ℕ) (rest : List ℕ) → is_letter b ≡ true → 1 + prefix_len is_name_byte rest ≤ 64
    → IsName (take (1 + prefix_len is_name_byte rest) (b ∷ rest))
name_spelled b rest letter few =
    let e : 1 + prefix_len is_name_byte rest ≡ suc (prefix_len is_name_byte rest) = omega arith in
    rw e (
      letter,
      front_passes is_name_byte rest,
      omega
          (arith, few, length-prefix_len is_name_byte rest),
    )

named_spelled : (b : ℕ) (rest : List ℕ) → is_letter b ≡ true
    → IsPieceSpelled (b ∷ rest) (named Name 1 rest)
named_spelled b rest letter =
    let within : leb (1 + prefix_len is_name_byte rest) 64 ≡ true
    → 1 + prefix_len is_name_byte rest ≤ 64 = λ few. grind (arith, few) in
    cond_both (leb (1 + prefix_len is_name_byte rest) 64)
    (Word Name (1 + prefix_len is_name_byte rest)) Fault (IsPieceSpelled (b ∷ rest))
    (λ few. name_spelled b rest letter (within few)) (λ many. tt)

variable_named : (m b : ℕ) (rest : List ℕ) → m ≡ 63 → is_letter b ≡ true
    → IsPieceSpelled (m ∷ b ∷ rest) (named Var 2 rest)
variable_named m b rest is letter =
    let within : leb (1 + prefix_len is_name_byte rest) 64 ≡ true
    → 1 + prefix_len is_name_byte rest ≤ 64 = λ few. grind (arith, few) in
    let e : 2 + prefix_len is_name_byte rest ≡ suc (1 + prefix_len is_name_byte rest) =
    omega arith in
    cond_both (leb (1 + prefix_len is_name_byte rest) 64)
    (Word Var (2 + prefix_len is_name_byte rest)) Fault (IsPieceSpelled (m ∷ b ∷ rest))
    (λ few. rw e (is, name_spelled b rest letter (within few))) (λ many. tt)

variable_spelled : (m : ℕ) (rest : List ℕ) → m ≡ 63 → IsPieceSpelled (m ∷ rest) (variable rest)
variable_spelled m [] is = tt
variable_spelled m (b ∷ rest) is =
    cond_both (is_letter b) (named Var 2 rest) Fault (IsPieceSpelled (m ∷ b ∷ rest)) (λ letter.
    variable_named m b rest is letter) (λ other. tt)

mark_spelled : (b : ℕ) (rest : List ℕ) → IsPieceSpelled (b ∷ rest) (mark b)
mark_spelled b rest =
    let P : Piece → Type 0 = IsPieceSpelled (b ∷ rest) in
    let single : (n : ℕ) → eqb b n ≡ true → b ∷ [] ≡ n ∷ [] = λ n e. grind (arith, e) in
    cond_both (eqb b 40) _ _ P (single 40) (λ _.
    cond_both (eqb b 41) _ _ P (single 41) (λ _.
    cond_both (eqb b 91) _ _ P (single 91) (λ _.
    cond_both (eqb b 93) _ _ P (single 93) (λ _.
    cond_both (eqb b 44) _ _ P (single 44) (λ _.
    cond_both (eqb b 59) _ _ P (single 59) (λ _.
    cond_both (eqb b 61) _ _ P (single 61) (λ _.
    cond_both (eqb b 124) _ _ P (single 124) (λ _.
    cond_both (eqb b 38) _ _ P (single 38) (λ _. tt)))))))))

piece_spelled : (b : ℕ) (rest : List ℕ) → IsPieceSpelled (b ∷ rest) (piece b rest)
piece_spelled b rest =
    let P : Piece → Type 0 = IsPieceSpelled (b ∷ rest) in
    let question : eqb b 63 ≡ true → b ≡ 63 = λ e. grind (arith, e) in
    cond_both (is_letter b) _ _ P (named_spelled b rest)
    (λ _. cond_both (is_blank b) _ _ P (λ _. tt)
    (λ _. cond_both (eqb b 35) _ _ P (λ _. tt)
    (λ _. cond_both (eqb b 63) _ _ P (λ e. variable_spelled b rest (question e)) (λ _.
    mark_spelled b rest))))

from_piece_spelled : (p : Piece) (place : ℕ) (text : List ℕ) (others : ℕ → Lexed)
    → IsPieceSpelled text p → ((inside : ℕ) → All IsSpelled (others inside).tokens)
    → All IsSpelled (from_piece p place text others).tokens
from_piece_spelled (Gap len) place text others h later = later (len - 1)
from_piece_spelled (Word kind len) place text others h later =
    All-cons IsSpelled (record {
      kind = kind;
      text = take len text;
      start =
          place;
    }) (others (len - 1)).tokens h (later (len - 1))
from_piece_spelled Fault place text others h later = All-nil IsSpelled

pub are_spelled : (inside place : ℕ) (bytes : List ℕ)
    → All IsSpelled (lexed inside place bytes).tokens
unfolding lexed
are_spelled inside place [] = All-nil IsSpelled
are_spelled (suc inside) place (b ∷ rest) = are_spelled inside (suc place) rest
are_spelled zero place (b ∷ rest) =
    from_piece_spelled (piece b rest) place (b ∷ rest) (λ inside.
    lexed inside (suc place) rest) (piece_spelled b rest) (λ inside.
    are_spelled inside (suc place) rest)
