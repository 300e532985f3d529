-- The line that a text begins with, and the lines behind it.
use Rattle.std.proofs.Common.{◌≡◌, ℕ, suc, ◌+◌, ◌-◌, ◌≤◌, ◌<◌, Bool, true, false, cond, not, List}
use Rattle.std.proofs.Common.{[], ◌∷◌, length, take, drop, refl, ap, ◌∙◌, arith, drop-drop}
use Rattle.std.proofs.Common.{length-drop}
use Rattle.std.specs.Prelude.{◌==◌}
use Rattle.std.specs.List.{prefix_len}
use Rattle.std.proofs.lemmas.List.{length-take-le}
use Rattle.std.proofs.lemmas.List.Sums.{prefix_len-le-length}
use Rattle.text_scan.specs.Bytes.{is_comment_byte}
use Rattle.text_scan.specs.Lines.{lines_of, with_byte}

abbrev pub line_len : List ℕ → ℕ
line_len bytes = prefix_len is_comment_byte bytes

after_byte : (ends : Bool) (b : ℕ) (rest : List ℕ)
    → (lines_of rest ≡ take (line_len rest) rest ∷ lines_of (drop (line_len rest + 1) rest))
    → cond ends ([] ∷ lines_of rest) (with_byte b (lines_of rest))
    ≡ take (cond (not ends) (1 + line_len rest) 0) (b ∷ rest)
    ∷ lines_of (drop (cond (not ends) (1 + line_len rest) 0 + 1) (b ∷ rest))
after_byte true b rest later = refl
after_byte false b rest later =
    let e : 1 + line_len rest ≡ suc (line_len rest) = omega arith in
    let f : suc (line_len rest) + 1 ≡ suc (line_len rest + 1) = omega arith in
    rw later (rw e (rw f refl))

last_byte : (ends : Bool) (b : ℕ) → cond ends ([] ∷ []) ((b ∷ []) ∷ [])
    ≡ take (cond (not ends) 1 0) (b ∷ []) ∷ lines_of (drop (cond (not ends) 1 0 + 1) (b ∷ []))
last_byte true b = refl
last_byte false b = refl

first_line : (bytes : List ℕ) → 0 < length bytes
    → lines_of bytes ≡ take (line_len bytes) bytes ∷ lines_of (drop (line_len bytes + 1) bytes)
first_line [] some = absurd (omega arith)
first_line (b ∷ []) some = last_byte (b == 10) b
first_line (b ∷ c ∷ rest) some =
    after_byte (b == 10) b (c ∷ rest) (first_line (c ∷ rest) (omega arith))

pub line_first : (place end : ℕ) (text : List ℕ) → place < length text
    → end ≡ place + line_len (drop place text)
    → lines_of (drop place text) ≡ take (end - place) (drop place text)
    ∷ lines_of (drop (place + length (take (end - place) (drop place text)) + 1) text)
line_first place end text lt is =
    let len = line_len (drop place text) in
    let short : len ≤ length (drop place text) =
    prefix_len-le-length is_comment_byte (drop place text) in
    let some : 0 < length (drop place text) = omega (arith, length-drop place text) in
    let n : end - place ≡ len = omega (arith, is) in
    let long : length (take (end - place) (drop place text)) ≡ len =
    rw n (length-take-le len (drop place text) short) in
    let e : place + (len + 1) ≡ place + len + 1 = omega arith in
    rw (long, n) (first_line (drop place text) some ∙ ap (λ (rest : List ℕ).
    take len (drop place text) ∷ lines_of rest)
    (drop-drop (len + 1) place text ∙ ap (λ (m : ℕ). drop m text) e))
