-- Texts that are their lines, each with its newline.
use Rattle.std.proofs.Common.{◌≡◌, ℕ, ◌==◌, Bool, true, false, cond, List, [], ◌∷◌, ◌++◌}
use Rattle.std.proofs.Common.{refl, sym, ◌∙◌, ap, append_assoc}
use Rattle.std.specs.Prelude.{flat_map}
use Rattle.std.proofs.lemmas.Bool.Decides.{Decides-eqb}
use Rattle.edge_io.specs.Lines.{newline, has_newline}
use Rattle.text_scan.specs.Lines.{with_byte, lines_of}
use Rattle.marked_lines.specs.Texts.{Text, ended, IsWhole}

pub lines_of-first : (line rest : Text) → has_newline line ≡ false
    → lines_of (line ++ 10 ∷ rest) ≡ line ∷ lines_of rest
lines_of-first [] rest none = refl
lines_of-first (b ∷ line) rest none =
    let tail = line ++ 10 ∷ rest in
    elim (b == newline) as (λ t. cond t true (has_newline line) ≡ false
    → cond t ([] ∷ lines_of tail) (with_byte b (lines_of tail)) ≡ (b ∷ line) ∷ lines_of rest)
    [ true ↦ λ h. cc | false ↦ λ h. ap (with_byte b) (lines_of-first line rest h) ] none

pub same_byte : (a b : ℕ) → (a == b) ≡ true → a ≡ b
same_byte a b is = (Decides-eqb a b).0 is

pub byte_itself : (a : ℕ) → (a == a) ≡ true
byte_itself a = (Decides-eqb a a).1 refl

-- no line has a newline
abbrev pub AreLines : List Text → Type 0
AreLines [] = Unit {0}
AreLines (line ∷ lines) = (has_newline line ≡ false) × AreLines lines

one_byte : (b : ℕ) → (b == newline) ≡ false → has_newline (b ∷ []) ≡ false
one_byte b other = rw other refl

more_byte : (b : ℕ) (line : Text) → (b == newline) ≡ false → has_newline line ≡ false
    → has_newline (b ∷ line) ≡ false
more_byte b line other none = rw other none

with_byte-lines : (b : ℕ) (lines : List Text) → (b == newline) ≡ false → AreLines lines
    → AreLines (with_byte b lines)
with_byte-lines b [] other are = (one_byte b other, tt)
with_byte-lines b (line ∷ lines) other are = (more_byte b line other are.0, are.1)

pub lines_of-lines : (told : Text) → AreLines (lines_of told)
lines_of-lines [] = tt
lines_of-lines (b ∷ told) = go (b == newline) refl (lines_of-lines told)
  where
    go : (t : Bool) → (b == newline) ≡ t → AreLines (lines_of told)
        → AreLines (cond t ([] ∷ lines_of told) (with_byte b (lines_of told)))
    go true is later = (refl, later)
    go false is later = with_byte-lines b (lines_of told) is later

-- the lines of ended lines are these
pub lines_of-ended : (lines : List Text) (rest : Text) → AreLines lines
    → lines_of (flat_map ended lines ++ rest) ≡ lines ++ lines_of rest
lines_of-ended [] rest are = refl
lines_of-ended (line ∷ lines) rest are =
    ap lines_of (ap (λ (t : Text). t ++ rest) (append_assoc line (10 ∷ []) (flat_map ended lines))
    ∙ append_assoc line (10 ∷ flat_map ended lines) rest)
    ∙ lines_of-first line (flat_map ended lines ++ rest) are.0
    ∙ ap (λ (l : List Text). line ∷ l) (lines_of-ended lines rest are.1)

flat_map-append : (f : Text → Text) (one other : List Text)
    → flat_map f (one ++ other) ≡ flat_map f one ++ flat_map f other
flat_map-append f [] other = refl
flat_map-append f (line ∷ one) other =
    ap (λ (t : Text). f line ++ t) (flat_map-append f one other)
    ∙ sym (append_assoc (f line) (flat_map f one) (flat_map f other))

-- the lines of a whole text and those behind it
pub lines_of-whole : (told rest : Text) → IsWhole told
    → lines_of (told ++ rest) ≡ lines_of told ++ lines_of rest
lines_of-whole told rest whole =
    ap (λ (t : Text). lines_of (t ++ rest)) (sym whole)
    ∙ lines_of-ended (lines_of told) rest (lines_of-lines told)

pub whole_joined : (one other : Text) → IsWhole one → IsWhole other → IsWhole (one ++ other)
whole_joined one other first second =
    ap (flat_map ended) (lines_of-whole one other first)
    ∙ flat_map-append ended (lines_of one) (lines_of other)
    ∙ ap (λ (t : Text). t ++ flat_map ended (lines_of other)) first
    ∙ ap (λ (t : Text). one ++ t) second

-- a byte before the first of lines that aren't none
byte_first : (b : ℕ) (lines : List Text) (rest : ℕ) (told : Text)
    → flat_map ended lines ≡ rest ∷ told
    → flat_map ended (with_byte b lines) ≡ b ∷ flat_map ended lines
byte_first b [] rest told is = absurd cc
byte_first b (line ∷ lines) rest told is = refl

some_end : (line : Text) → (b : ℕ) × (told : Text) × (line ++ 10 ∷ [] ≡ b ∷ told)
some_end [] = (10, [], refl)
some_end (b ∷ line) = (b, line ++ 10 ∷ [], refl)

-- whatever ends with a newline is whole
pub whole_ended : (line : Text) → IsWhole (ended line)
whole_ended [] = refl
whole_ended (b ∷ line) = go (b == newline) refl (whole_ended line)
  where
    go : (t : Bool) → (b == newline) ≡ t → IsWhole (ended line)
        → flat_map ended (cond t ([] ∷ lines_of (ended line)) (with_byte b (lines_of (ended line))))
        ≡ b ∷ ended line
    go true is later =
        let same : b ≡ 10 = same_byte b 10 is in
        ap (λ (t : Text). 10 ∷ t) later ∙ ap (λ (n : ℕ). n ∷ ended line) (sym same)
    go false is later =
        let some = some_end line in
        byte_first b (lines_of (ended line)) some.0 some.1 (later ∙ some.2)
        ∙ ap (λ (t : Text). b ∷ t) later

pub whole_nothing : IsWhole []
whole_nothing = refl
