-- The texts of lines that belong to no stream, and of the end, stand behind no mark.
use Rattle.std.proofs.Common.{◌≡◌, ℕ, zero, suc, ◌+◌, ◌≤◌, ◌/◌, ◌%◌, ◌==◌, Bool, true, false}
use Rattle.std.proofs.Common.{cond, [], ◌∷◌, ◌++◌, refl, sym, ◌∙◌, ap, append_assoc}
use Rattle.std.proofs.Common.{append-nil, arith}
use Rattle.std.specs.Prelude.{codes, decimal, flat_map, nat_lt, Option, None}
use Rattle.std.specs.Fmt.{digit_glyph, digits_onto, digits}
use Rattle.edge_io.specs.Lines.{has_newline}
use Rattle.edge_io.proofs.LinesLemmas.{has_newline-append}
use Rattle.marked_lines.specs.Texts.{Text, ended, mark, refusal_text, end_text}
use Rattle.marked_lines.specs.Laws.{behind, ended_line, unmarked}
use Rattle.marked_lines.proofs.WholeTexts.{lines_of-first}

-- ---- numbers have no newline

not_ten : (n : ℕ) → 11 ≤ n → (n == 10) ≡ false
not_ten n more = grind arith

glyph_not_ten : (upper : Bool) (d : ℕ) → (digit_glyph upper d == 10) ≡ false
glyph_not_ten upper d = go (nat_lt d 10) upper
  where
    go : (small upper : Bool)
        → (cond small (48 + d) (cond upper (55 + d) (87 + d)) == 10) ≡ false
    go true upper = not_ten (48 + d) (omega arith)
    go false true = not_ten (55 + d) (omega arith)
    go false false = not_ten (87 + d) (omega arith)

glyph_line : (upper : Bool) (d : ℕ) (told : Text) → has_newline told ≡ false
    → has_newline (digit_glyph upper d ∷ told) ≡ false
glyph_line upper d told none =
    let other : (digit_glyph upper d == 10) ≡ false = glyph_not_ten upper d in rw other none

digits_line : (k n : ℕ) (told : Text) → has_newline told ≡ false
    → has_newline (digits_onto k 10 false n told) ≡ false
digits_line zero n told none = none
digits_line (suc k) n told none =
    let one = glyph_line false (n % 10) told none in
    elim (n / 10 == 0) as (λ t.
    has_newline (cond t (digit_glyph false (n % 10) ∷ told)
    (digits_onto k 10 false (n / 10) (digit_glyph false (n % 10) ∷ told))) ≡ false) [
      | true ↦ one
      | false ↦ digits_line k (n / 10) (digit_glyph false (n % 10) ∷ told) one
    ]

pub decimal_line : (n : ℕ) → has_newline (decimal n) ≡ false
unfolding digits
decimal_line n = digits_line 64 n [] refl

-- ---- a line that no mark stands before

bare_first : (name line rest : Text) → has_newline line ≡ false
    → behind (mark name) line ≡ (let nothing : Option Text = None in nothing)
    → unmarked name (ended line ++ rest) ≡ unmarked name rest
bare_first name line rest none other =
    ap (unmarked name) (append_assoc line (10 ∷ []) rest)
    ∙ ap (flat_map (λ l. ended_line (behind (mark name) l))) (lines_of-first line rest none)
    ∙ ap (λ o. ended_line o ++ unmarked name rest) other

refusal_line : (number : ℕ) (cause : Text) → has_newline cause ≡ false
    → has_newline (codes "line " ++ decimal number ++ codes " refused " ++ cause) ≡ false
refusal_line number cause none =
    has_newline-append (codes "line " ++ decimal number ++ codes " refused ") cause
    (has_newline-append (codes "line " ++ decimal number) (codes " refused ")
    (has_newline-append (codes "line ") (decimal number) refl (decimal_line number)) refl) none

pub unmarked_refusal : (name : Text) (number : ℕ) (cause rest : Text) → has_newline cause ≡ false
    → unmarked name (refusal_text number cause ++ rest) ≡ unmarked name rest
unfolding refusal_text
unmarked_refusal name number cause rest none =
    bare_first name (codes "line " ++ decimal number ++ codes " refused " ++ cause) rest
    (refusal_line number cause none) refl

end_line : (streams refused : ℕ)
    → has_newline (codes "end streams " ++ decimal streams ++ codes " refused " ++ decimal refused)
    ≡ false
end_line streams refused =
    has_newline-append (codes "end streams " ++ decimal streams ++ codes " refused ")
    (decimal refused)
    (has_newline-append (codes "end streams " ++ decimal streams) (codes " refused ")
    (has_newline-append (codes "end streams ") (decimal streams) refl (decimal_line streams)) refl)
    (decimal_line refused)

pub unmarked_end : (name : Text) (streams refused : ℕ)
    → unmarked name (end_text streams refused) ≡ []
unfolding end_text
unmarked_end name streams refused =
    let line = codes "end streams " ++ decimal streams ++ codes " refused " ++ decimal refused in
    ap (unmarked name) (sym (append-nil (ended line)))
    ∙ bare_first name line [] (end_line streams refused) refl
