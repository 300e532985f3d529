-- Numbers of tuples.
use Rattle.std.proofs.Common.{◌≡◌, ℕ, zero, suc, ◌+◌, ◌*◌, ◌/◌, ◌%◌, ◌^◌, ◌<◌, ◌≤◌, List, [], ◌∷◌}
use Rattle.std.proofs.Common.{◌++◌, length, refl, ◌∙◌, ap, subst, arith, inl, inr, add-one}
use Rattle.std.proofs.Common.{length-append}
use Rattle.std.specs.Prelude.{◌⊎◌, All, map}
use Rattle.std.specs.List.{Contains}
use Rattle.std.proofs.lemmas.Bool.{cases_lt}
use Rattle.std.proofs.lemmas.List.Elements.{All-nil, Contains-append_left, Contains-append_right}
use Rattle.std.proofs.lemmas.List.Elements.{Contains-append_cases}
use Rattle.std.proofs.Math.Nat.{pow-le-pow_right, pow-suc, pow-zero, mul-le-mul_left, mod-lt}
use Rattle.dl_syntax.specs.declared.names.IndId.{IndId}
use Rattle.answer_tables.specs.Tuples.{IsTuple, number, with_first, tuples}

abbrev pub Digits : ℕ → List IndId → Type 0
Digits slots row = All (λ (i : IndId). i.0 < slots) row

pub tail_digits : (slots : ℕ) (i : IndId) (row : List IndId) → Digits slots (i ∷ row)
    → Digits slots row
tail_digits slots i row digits k d l = digits (suc k) d (omega (arith, l))

pub head_digit : (slots : ℕ) (i : IndId) (row : List IndId) → Digits slots (i ∷ row) → i.0 < slots
head_digit slots i row digits = digits zero i (omega arith)

pub digits_cons : (slots : ℕ) (i : IndId) (row : List IndId) → i.0 < slots → Digits slots row
    → Digits slots (i ∷ row)
digits_cons slots i row first rest zero d l = first
digits_cons slots i row first rest (suc k) d l = rest k d (omega (arith, l))

pub number-push : (slots : ℕ) (xs : List IndId) (x : IndId)
    → number slots (xs ++ x ∷ []) ≡ number slots xs * slots + x.0
number-push slots [] x = ap (λ p. x.0 * p + 0) (pow-zero slots) ∙ omega arith
number-push slots (y ∷ xs) x =
    let long : length (xs ++ x ∷ []) ≡ suc (length xs) = omega (arith, length-append xs (x ∷ [])) in
    let power : slots ^ length (xs ++ x ∷ []) ≡ slots ^ length xs * slots =
    ap (λ k. slots ^ k) long ∙ pow-suc slots (length xs) in
    let rest = number-push slots xs x in
    ap (λ p. y.0 * p + number slots (xs ++ x ∷ [])) power ∙ ap (λ m.
    y.0 * (slots ^ length xs * slots) + m) rest ∙ omega arith

pub number-below : (slots : ℕ) (xs : List IndId) → Digits slots xs
    → number slots xs < slots ^ length xs
number-below slots [] digits = omega (arith, pow-zero slots)
number-below slots (y ∷ xs) digits =
    let rest = number-below slots xs (tail_digits slots y xs digits) in
    let first = head_digit slots y xs digits in
    let more : slots ^ length xs * (y.0 + 1) ≤ slots ^ length xs * slots =
    mul-le-mul_left (slots ^ length xs) (omega (arith, first)) in
    omega (arith, rest, more, pow-suc slots (length xs))

pub next_below : (n slots i x : ℕ) → n < slots ^ i → x < slots → n * slots + x < slots ^ (i + 1)
next_below n slots i x below less =
    let power : slots ^ (i + 1) ≡ slots ^ i * slots =
    ap (λ k. slots ^ k) (add-one i) ∙ pow-suc slots i in
    let more : (n + 1) * slots ≤ slots ^ i * slots = grind arith in
    let spread : (n + 1) * slots ≡ n * slots + slots = omega arith in
    omega (arith, power, more, spread)

pub within_all : (slots i len x : ℕ) → x < slots → i < len → slots ^ len ≤ 2 ^ 60
    → slots ^ (i + 1) ≤ 2 ^ 60
within_all slots i len x less within few =
    let some : zero < slots = omega arith in
    let power : slots ^ (i + 1) ≤ slots ^ len = pow-le-pow_right some (omega arith) in
    omega (arith, power, few)

-- the number of a tuple is below that of all tuples
pub tuple_below : (slots arity : ℕ) (tuple : List IndId) → IsTuple slots arity tuple
    → number slots tuple < slots ^ arity
tuple_below slots arity tuple is =
    subst (λ (k : ℕ). number slots tuple < slots ^ k) is.0 (number-below slots tuple is.1)

-- each number below that is a tuple's
pub tuple_at : (slots arity n : ℕ) → n < slots ^ arity
    → (tuple : List IndId) × IsTuple slots arity tuple × (number slots tuple ≡ n)
tuple_at slots zero n below =
    ([], (refl, All-nil (λ (i : IndId). i.0 < slots)), omega (arith, below, pow-zero slots))
tuple_at slots (suc k) n below = go (cases_lt zero (slots ^ k)) (λ m less. tuple_at slots k m less)
  where
    go : (zero < slots ^ k) ⊎ (slots ^ k ≤ zero)
        → ((m : ℕ) → m < slots ^ k → (tuple : List IndId) × IsTuple slots k tuple
        × (number slots tuple ≡ m)) → (tuple : List IndId) × IsTuple slots (suc k) tuple
        × (number slots tuple ≡ n)
    go (inr none) rest =
        absurd (omega (
          arith,
          below,
          pow-suc slots k,
          ap (λ p. p * slots) (let e : slots ^ k
              ≡ zero = omega (arith, none) in e),
        ))
    go (inl some) rest =
        let tail = rest (n % slots ^ k) (mod-lt n some) in
        let whole : slots ^ k * (n / slots ^ k) + n % slots ^ k ≡ n = omega (arith, some) in
        let first : n / slots ^ k < slots = elim (cases_lt (n / slots ^ k) slots) [
          | inl less ↦ less
          | inr more ↦ let much : slots ^ k * slots ≤ slots ^ k * (n / slots ^ k) =
              mul-le-mul_left (slots ^ k) more in
              absurd (omega (arith, below, pow-suc slots k, much, whole))
        ] in
        let digit : IndId = record { 0 = n / slots ^ k } in
        let power : slots ^ length tail.0 ≡ slots ^ k = ap (λ m. slots ^ m) tail.1.0 in (
          digit ∷ tail.0,
          (ap suc tail.1.0, digits_cons slots digit tail.0 first tail.1.1),
          ap (λ p.
              (n / slots ^ k) * p + number slots tail.0) power ∙ ap (λ m.
              (n / slots ^ k) * slots ^ k + m) tail.2 ∙ omega (arith, whole),
        )

pub Contains-map : {A B : Type 0} (f : A → B) (xs : List A) (x : A) → Contains xs x
    → Contains (map f xs) (f x)
Contains-map f [] x (k, within, is) = absurd (omega (arith, within))
Contains-map f (y ∷ xs) x (zero, within, is) = (zero, omega arith, ap f is)
Contains-map f (y ∷ xs) x (suc k, within, is) = let rest =
    Contains-map f xs x (k, omega (arith, within), is) in
    (suc rest.0, (let l = rest.1 in omega (arith, l)), rest.2)

pub from_map : {A B : Type 0} (f : A → B) (xs : List A) (y : B) → Contains (map f xs) y
    → (x : A) × Contains xs x × (f x ≡ y)
from_map f [] y (k, within, is) = absurd (omega (arith, within))
from_map f (x ∷ xs) y (zero, within, is) = (x, (zero, omega arith, refl), is)
from_map f (x ∷ xs) y (suc k, within, is) = let rest =
    from_map f xs y (k, omega (arith, within), is) in
    (rest.0, (suc rest.1.0, (let l = rest.1.1 in omega (arith, l)), rest.1.2), rest.2)

abbrev put : ℕ → List IndId → List IndId
put n rest = (record { 0 = n }) ∷ rest

with_first_all : (n : ℕ) (rests : List (List IndId)) (i : IndId) (t : List IndId) → i.0 < n
    → Contains rests t → Contains (with_first n rests) (i ∷ t)
with_first_all zero rests i t less there = absurd (omega (arith, less))
with_first_all (suc n) rests i t less there =
    go (cases_lt i.0 n) (λ early. with_first_all n rests i t early there)
  where
    go : (i.0 < n) ⊎ (n ≤ i.0) → (i.0 < n → Contains (with_first n rests) (i ∷ t))
        → Contains (with_first (suc n) rests) (i ∷ t)
    go (inl early) rest = Contains-append_left (with_first n rests) (map (put n) rests) (i ∷ t)
        (rest early)
    go (inr late) rest =
        let same : n ≡ i.0 = omega (arith, late, less) in
        Contains-append_right (with_first n rests) (map (put n) rests) (i ∷ t)
        (subst (λ (x : List IndId). Contains (map (put n) rests) x)
        (ap (λ (m : ℕ). put m t) same) (Contains-map (put n) rests t there))

pub all_tuples : (slots arity : ℕ) (tuple : List IndId) → IsTuple slots arity tuple
    → Contains (tuples slots arity) tuple
all_tuples slots zero [] is = (zero, omega arith, refl)
all_tuples slots zero (i ∷ tuple) is = absurd (omega (arith, is.0))
all_tuples slots (suc arity) [] is = absurd (omega (arith, is.0))
all_tuples slots (suc arity) (i ∷ tuple) is =
    with_first_all slots (tuples slots arity) i tuple (head_digit slots i tuple is.1)
    (all_tuples slots arity tuple (omega (arith, is.0), tail_digits slots i tuple is.1))

with_first_only : (n : ℕ) (rests : List (List IndId)) (t : List IndId)
    → Contains (with_first n rests) t → (i : IndId) × (i.0 < n)
    × ((rest : List IndId) × Contains rests rest × (i ∷ rest ≡ t))
with_first_only zero rests t (k, within, is) = absurd (omega (arith, within))
with_first_only (suc n) rests t there =
    go (Contains-append_cases (with_first n rests) (map (put n) rests) t there) (λ early.
    with_first_only n rests t early)
  where
    go : Contains (with_first n rests) t ⊎ Contains (map (put n) rests) t
        → (Contains (with_first n rests) t → (i : IndId) × (i.0 < n)
        × ((rest : List IndId) × Contains rests rest × (i ∷ rest ≡ t)))
        → (i : IndId) × (i.0 < suc n) × ((rest : List IndId) × Contains rests rest × (i ∷ rest ≡ t))
    go (inl early) rest = let found = rest early in
        (found.0, (let less = found.1 in omega (arith, less)), found.2)
    go (inr late) rest = let found = from_map (put n) rests t late in
        (record { 0 = n }, omega arith, (found.0, found.1, found.2))

pub only_tuples : (slots arity : ℕ) (tuple : List IndId) → Contains (tuples slots arity) tuple
    → IsTuple slots arity tuple
only_tuples slots zero tuple (zero, within, is) =
    subst (IsTuple slots zero) is (refl, All-nil (λ (i : IndId). i.0 < slots))
only_tuples slots zero tuple (suc k, within, is) = absurd (omega (arith, within))
only_tuples slots (suc arity) tuple there =
    let found = with_first_only slots (tuples slots arity) tuple there in
    let rest = only_tuples slots arity found.2.0 found.2.1 in
    subst (IsTuple slots (suc arity)) found.2.2
    (ap suc rest.0, digits_cons slots found.0 found.2.0 found.1 rest.1)

-- where there is a number with some places, there is a slot
pub some_slots : (slots places n : ℕ) → n < slots ^ places → 0 < places → 0 < slots
some_slots zero zero n below some = absurd (omega (arith, some))
some_slots zero (suc k) n below some =
    absurd (let none : zero ^ suc k ≡ 0 = pow-suc zero k ∙ omega arith in
    omega (arith, below, none))
some_slots (suc m) places n below some = omega arith
