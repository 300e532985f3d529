-- The first place of a text in a list of texts.
use Rattle.std.proofs.Common.{◌≡◌, ℕ, ◌+◌, ◌<◌, ◌≤◌, Bool, true, false, cond, ltb, List, [], length}
use Rattle.std.proofs.Common.{map, get_or, Some, None, refl, ap, ◌∙◌, arith, below_more}
use Rattle.std.specs.List.{position, position_or_len}
use Rattle.std.specs.Str.{bytes_eq}
use Rattle.std.proofs.lemmas.Bool.{cond-true}
use Rattle.std.proofs.lemmas.Bool.Decides.{Decides-ltb}
use Rattle.std.proofs.lemmas.List.{length-map, get_or-map}
use Rattle.std.proofs.lemmas.List.Sums.{position_or_len_is}

abbrev pub is : List ℕ → List ℕ → Bool
is text known = bytes_eq known text

found_at : (names : List (List ℕ)) (text : List ℕ) (n : ℕ) → n < length names
    → ((k : ℕ) → k < n → is text (get_or names k []) ≡ false)
    → is text (get_or names n []) ≡ true → position (is text) names ≡ Some n
found_at names text n within before here =
    let first : position_or_len (is text) names ≡ n =
    position_or_len_is (is text) names n [] (omega arith) before (λ _. here) in
    ap (λ (p : ℕ). cond (ltb p (length names)) (Some p) None) first ∙ cond-true
    (ltb n (length names)) (Some n) None ((Decides-ltb n (length names)).1 within)

not_found : (names : List (List ℕ)) (text : List ℕ)
    → ((k : ℕ) → k < length names → is text (get_or names k []) ≡ false)
    → position (is text) names ≡ None
not_found names text before =
    let first : position_or_len (is text) names ≡ length names =
    position_or_len_is (is text) names (length names) [] (omega arith) before (λ lt.
    absurd (omega arith)) in
    ap (λ (p : ℕ). cond (ltb p (length names)) (Some p) None) first ∙ grind arith

-- no text before the place is this one
abbrev pub NotBefore : {X : Type 0} → (X → List ℕ) → List X → List ℕ → ℕ → Type 0
NotBefore see xs text n = (k : ℕ) → k < n → is text (get_or (map see xs) k []) ≡ false

pub found_in : {X : Type 0} (see : X → List ℕ) (xs : List X) (text : List ℕ) (n : ℕ) (d : X)
    → n < length xs → NotBefore see xs text n → is text (see (get_or xs n d)) ≡ true
    → position (is text) (map see xs) ≡ Some n
found_in see xs text n d within before here =
    found_at (map see xs) text n (rw length-map within) before
    (ap (is text) (get_or-map see xs n d [] within) ∙ here)

pub not_found_in : {X : Type 0} (see : X → List ℕ) (xs : List X) (text : List ℕ) (n : ℕ)
    → length xs ≤ n → NotBefore see xs text n → position (is text) (map see xs) ≡ None
not_found_in see xs text n past before =
    let long : length (map see xs) ≡ length xs = rw length-map refl in
    not_found (map see xs) text (λ k lt. before k (omega (arith, long)))

pub not_before_more : {X : Type 0} (see : X → List ℕ) (xs : List X) (text : List ℕ) (n : ℕ) (d : X)
    → n < length xs → NotBefore see xs text n → is text (see (get_or xs n d)) ≡ false
    → NotBefore see xs text (n + 1)
not_before_more see xs text n d within before here =
    below_more _ n before (ap (is text) (get_or-map see xs n d [] within) ∙ here)
