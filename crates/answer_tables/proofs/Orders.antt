-- The order of rows and that of their numbers.
use Rattle.std.proofs.Common.{◌≡◌, ℕ, ◌+◌, ◌*◌, ◌^◌, ◌<◌, ◌≤◌, List, [], ◌∷◌, length, refl, sym}
use Rattle.std.proofs.Common.{◌∙◌, ap, arith, inl, inr}
use Rattle.std.specs.Prelude.{◌⊎◌}
use Rattle.std.specs.List.{Contains}
use Rattle.std.proofs.lemmas.Bool.{cases_lt}
use Rattle.std.proofs.Math.Nat.{mul-le-mul_left}
use Rattle.dl_syntax.specs.declared.names.IndId.{IndId}
use Rattle.dl_syntax.specs.Rows.{IsBelow, IsAboveLast}
use Rattle.list_lemmas.proofs.Elements.{Contains-first, Contains-later}
use Rattle.answer_tables.specs.Tuples.{IsTuple, number}
use Rattle.answer_tables.proofs.Numbers.{Digits, tail_digits, number-below}

number_cons : (slots : ℕ) (i : IndId) (t : List IndId)
    → number slots (i ∷ t) ≡ i.0 * slots ^ length t + number slots t
number_cons slots i t = refl

number_less : (slots : ℕ) (x y : List IndId) → length x ≡ length y → Digits slots x → IsBelow x y
    → number slots x < number slots y
number_less slots [] [] same digits below = absurd below
number_less slots [] (b ∷ y) same digits below = absurd (omega (arith, same))
number_less slots (a ∷ x) [] same digits below = absurd below
number_less slots (a ∷ x) (b ∷ y) same digits (inl less) =
    let rest = number-below slots x (tail_digits slots a x digits) in
    let more : slots ^ length x * (a.0 + 1) ≤ slots ^ length x * b.0 =
    mul-le-mul_left (slots ^ length x) (omega (arith, less)) in
    let short : length x ≡ length y = omega (arith, same) in
    let power : b.0 * slots ^ length x ≡ b.0 * slots ^ length y =
    ap (λ (k : ℕ). b.0 * slots ^ k) short in
    omega (arith, rest, more, power, number_cons slots a x, number_cons slots b y)
number_less slots (a ∷ x) (b ∷ y) same digits (inr (equal, below)) =
    let short : length x ≡ length y = omega (arith, same) in
    let rest = number_less slots x y short (tail_digits slots a x digits) below in
    let power : a.0 * slots ^ length x ≡ b.0 * slots ^ length y =
    ap (λ (k : ℕ). a.0 * slots ^ k) short ∙ ap (λ (m : ℕ). m * slots ^ length y) equal in
    omega (arith, rest, power, number_cons slots a x, number_cons slots b y)

-- the number of a lower row is lower
pub number_rises : (slots arity : ℕ) (x y : List IndId) → IsTuple slots arity x
    → IsTuple slots arity y → IsBelow x y → number slots x < number slots y
number_rises slots arity x y is_x is_y below =
    number_less slots x y (is_x.0 ∙ sym is_y.0) is_x.1 below

same_individual : (a b : IndId) → a.0 ≡ b.0 → a ≡ b
same_individual a b e = ap (λ (n : ℕ). record { 0 = n }) e

three_ways : (x y : List IndId) → length x ≡ length y → IsBelow x y ⊎ ((x ≡ y) ⊎ IsBelow y x)
three_ways [] [] same = inr (inl refl)
three_ways [] (b ∷ y) same = absurd (omega (arith, same))
three_ways (a ∷ x) [] same = absurd (omega (arith, same))
three_ways (a ∷ x) (b ∷ y) same =
    go (cases_lt a.0 b.0) (cases_lt b.0 a.0) (three_ways x y (omega (arith, same)))
  where
    go : (a.0 < b.0) ⊎ (b.0 ≤ a.0) → (b.0 < a.0) ⊎ (a.0 ≤ b.0)
        → IsBelow x y ⊎ ((x ≡ y) ⊎ IsBelow y x)
        → IsBelow (a ∷ x) (b ∷ y) ⊎ (((a ∷ x) ≡ (b ∷ y)) ⊎ IsBelow (b ∷ y) (a ∷ x))
    go (inl less) other rest = inl (inl less)
    go (inr from) (inl more) rest = inr (inr (inl more))
    go (inr from) (inr to) (inl below) = inl (inr (omega (arith, from, to), below))
    go (inr from) (inr to) (inr (inl equal)) =
        inr (inl (ap (λ (c : IndId). c ∷ x) (same_individual a b (omega (arith, from, to))) ∙ ap
        (λ (z : List IndId). b ∷ z) equal))
    go (inr from) (inr to) (inr (inr above)) = inr (inr (inr (omega (arith, from, to), above)))

-- tuples of one number are equal
pub number_tells : (slots arity : ℕ) (x y : List IndId) → IsTuple slots arity x
    → IsTuple slots arity y → number slots x ≡ number slots y → x ≡ y
number_tells slots arity x y is_x is_y same = go (three_ways x y (is_x.0 ∙ sym is_y.0))
  where
    go : IsBelow x y ⊎ ((x ≡ y) ⊎ IsBelow y x) → x ≡ y
    go (inl below) = absurd (let less = number_rises slots arity x y is_x is_y below in
        omega (arith, less, same))
    go (inr (inl equal)) = equal
    go (inr (inr above)) = absurd (let less = number_rises slots arity y x is_y is_x above in
        omega (arith, less, same))

-- the tuple of the lower number is lower
pub below_by_number : (slots arity : ℕ) (x y : List IndId) → IsTuple slots arity x
    → IsTuple slots arity y → number slots x < number slots y → IsBelow x y
below_by_number slots arity x y is_x is_y less = go (three_ways x y (is_x.0 ∙ sym is_y.0))
  where
    go : IsBelow x y ⊎ ((x ≡ y) ⊎ IsBelow y x) → IsBelow x y
    go (inl below) = below
    go (inr (inl equal)) = absurd (let same = ap (number slots) equal in omega (arith, less, same))
    go (inr (inr above)) = absurd (let more = number_rises slots arity y x is_y is_x above in
        omega (arith, less, more))

-- what is above each is above the last
pub above_last : (rows : List (List IndId)) (row : List IndId)
    → ((x : List IndId) → Contains rows x → IsBelow x row) → IsAboveLast row rows
above_last [] row each = tt
above_last (first ∷ []) row each = each first (Contains-first first [])
above_last (first ∷ second ∷ rows) row each =
    above_last (second ∷ rows) row (λ x there.
    each x (Contains-later first (second ∷ rows) x there))
