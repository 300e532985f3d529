-- What is read of marked texts behind the mark of a name.
use Rattle.std.proofs.Common.{◌≡◌, ◌≢◌, ℕ, ◌==◌, Bool, true, false, cond, List, [], ◌∷◌, ◌++◌}
use Rattle.std.proofs.Common.{refl, sym, ◌∙◌, ap, subst, append_assoc}
use Rattle.std.specs.Prelude.{flat_map, Option, None, Some}
use Rattle.edge_io.specs.Lines.{has_newline}
use Rattle.edge_io.proofs.LinesLemmas.{has_newline-append}
use Rattle.text_scan.specs.Lines.{lines_of}
use Rattle.marked_lines.specs.Texts.{Text, ended, IsWhole, mark, marked_line, marked}
use Rattle.marked_lines.specs.Laws.{behind, ended_line, unmarked}
use Rattle.marked_lines.proofs.WholeTexts.{lines_of-first, AreLines, lines_of-lines, same_byte}
use Rattle.marked_lines.proofs.WholeTexts.{byte_itself}

-- no byte of the name is a blank that ends a mark, or a newline
abbrev pub IsPlain : Text → Type 0
IsPlain [] = Unit {0}
IsPlain (b ∷ name) = ((b == 32) ≡ false) × ((b == 10) ≡ false) × IsPlain name

pub plain_line : (name : Text) → IsPlain name → has_newline name ≡ false
plain_line [] plain = refl
plain_line (b ∷ name) plain = rw plain.1 (plain_line name plain.2)

mark_line : (name line : Text) → IsPlain name → has_newline line ≡ false
    → has_newline (mark name ++ line) ≡ false
mark_line name line plain none =
    has_newline-append (name ++ 32 ∷ []) line
    (has_newline-append name (32 ∷ []) (plain_line name plain) refl) none

-- ---- the same mark

pub behind_front : (front line : Text) → behind front (front ++ line) ≡ Some line
behind_front [] line = refl
behind_front (b ∷ front) line =
    let same : (b == b) ≡ true = byte_itself b in rw same (behind_front front line)

-- ---- another mark

other_name : (one other line : Text) → IsPlain one → IsPlain other → one ≢ other
    → behind (one ++ 32 ∷ []) ((other ++ 32 ∷ []) ++ line) ≡ None
other_name [] [] line p q apart = absurd (apart refl)
other_name [] (b ∷ other) line p q apart = go (32 == b) refl
  where
    go : (t : Bool) → (32 == b) ≡ t → cond t (Some ((other ++ 32 ∷ []) ++ line)) None ≡ None
    go true is = let same : b ≡ 32 = sym (same_byte 32 b is) in
        let never : (32 == 32) ≡ false = subst (λ (n : ℕ). (n == 32) ≡ false) same q.0 in
        absurd cc
    go false is = refl
other_name (a ∷ one) [] line p q apart = rw p.0 refl
other_name (a ∷ one) (b ∷ other) line p q apart =
    elim (a == b) as (λ t. (a == b) ≡ t
    → cond t (behind (one ++ 32 ∷ []) ((other ++ 32 ∷ []) ++ line)) None ≡ None) [
      | true ↦ λ is. other_name one other line p.2 q.2 (λ same.
          apart (ap (λ (n : ℕ). n ∷ one) (same_byte a b is) ∙ ap (λ (t : Text). b ∷ t) same))
      | false ↦ λ is. refl
    ] refl

pub behind_other : (one other line : Text) → IsPlain one → IsPlain other → one ≢ other
    → behind (mark one) (mark other ++ line) ≡ None
behind_other one other line p q apart = other_name one other line p q apart

-- ---- lines behind marks

-- what a line gives that is read for the name
abbrev own : Text → Text → Text
own name line = ended_line (behind (mark name) line)

marked_first : (name line rest : Text) → IsPlain name → has_newline line ≡ false
    → lines_of (marked_line name line ++ rest) ≡ (mark name ++ line) ∷ lines_of rest
marked_first name line rest plain none =
    ap lines_of (append_assoc (mark name) (ended line) rest
    ∙ ap (λ (t : Text). mark name ++ t) (append_assoc line (10 ∷ []) rest)
    ∙ sym (append_assoc (mark name) line (10 ∷ rest)))
    ∙ lines_of-first (mark name ++ line) rest (mark_line name line plain none)

same_lines : (name : Text) (lines : List Text) (rest : Text) → IsPlain name → AreLines lines
    → unmarked name (flat_map (marked_line name) lines ++ rest)
    ≡ flat_map ended lines ++ unmarked name rest
same_lines name [] rest plain are = refl
same_lines name (line ∷ lines) rest plain are =
    let more = flat_map (marked_line name) lines ++ rest in
    ap (unmarked name)
    (append_assoc (marked_line name line) (flat_map (marked_line name) lines) rest)
    ∙ ap (flat_map (own name)) (marked_first name line more plain are.0)
    ∙ ap (λ (o : Option Text). ended_line o ++ unmarked name more) (behind_front (mark name) line)
    ∙ ap (λ (t : Text). ended line ++ t) (same_lines name lines rest plain are.1)
    ∙ sym (append_assoc (ended line) (flat_map ended lines) (unmarked name rest))

other_lines : (one other : Text) (lines : List Text) (rest : Text) → IsPlain one → IsPlain other
    → one ≢ other → AreLines lines
    → unmarked one (flat_map (marked_line other) lines ++ rest) ≡ unmarked one rest
other_lines one other [] rest p q apart are = refl
other_lines one other (line ∷ lines) rest p q apart are =
    let more = flat_map (marked_line other) lines ++ rest in
    ap (unmarked one)
    (append_assoc (marked_line other line) (flat_map (marked_line other) lines) rest)
    ∙ ap (flat_map (own one)) (marked_first other line more q are.0)
    ∙ ap (λ (o : Option Text). ended_line o ++ unmarked one more)
    (behind_other one other line p q apart)
    ∙ other_lines one other lines rest p q apart are.1

-- ---- marked texts

pub unmarked_marked : (name told rest : Text) → IsPlain name → IsWhole told
    → unmarked name (marked name told ++ rest) ≡ told ++ unmarked name rest
unfolding marked
unmarked_marked name told rest plain whole =
    same_lines name (lines_of told) rest plain (lines_of-lines told)
    ∙ ap (λ (t : Text). t ++ unmarked name rest) whole

pub unmarked_other : (one other told rest : Text) → IsPlain one → IsPlain other → one ≢ other
    → unmarked one (marked other told ++ rest) ≡ unmarked one rest
unfolding marked
unmarked_other one other told rest p q apart =
    other_lines one other (lines_of told) rest p q apart (lines_of-lines told)
