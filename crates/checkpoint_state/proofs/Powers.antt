-- Where there is no tuple.
use Rattle.std.proofs.Common.{◌≡◌, ℕ, zero, suc, ◌*◌, ◌^◌, ◌<◌, ◌≤◌, true, false, nat_eq, nat_lt}
use Rattle.std.proofs.Common.{sym, ◌∙◌, ap, arith, inl, inr}
use Rattle.std.specs.Prelude.{◌⊎◌, ◌≢◌, ◌↔◌, IsTrue}
use Rattle.std.proofs.lemmas.Bool.{lt-ltb, ltb-true}
use Rattle.std.proofs.lemmas.Bool.Decides.{eqb_tells}
use Rattle.std.proofs.Math.Nat.{pow-le-pow_right, pow-suc, pow-zero}

-- no slot and some places
pub none_there : (slots arity : ℕ) → slots ≡ 0 → 0 < arity → slots ^ arity ≡ 0
none_there slots zero none some = absurd (omega (arith, some))
none_there slots (suc k) none some =
    pow-suc slots k ∙ ap (λ (n : ℕ). slots ^ k * n) none ∙ omega arith

-- a slot, or no place
pub some_there : (slots arity : ℕ) → slots ≢ 0 → 0 < slots ^ arity
some_there slots arity some =
    let more : 1 ≤ slots = omega (arith, some) in
    let power : slots ^ 0 ≤ slots ^ arity = pow-le-pow_right more (omega arith) in
    omega (arith, power, pow-zero slots)

pub tested_none : (slots arity : ℕ) → slots ≡ 0
    → nat_lt 0 arity ≡ nat_eq (slots ^ arity) 0
tested_none slots zero none = sym (ap (λ (n : ℕ). nat_eq n 0) (pow-zero slots))
tested_none slots (suc k) none =
    lt-ltb 0 (suc k) (omega arith)
    ∙ sym (ap (λ (n : ℕ). nat_eq n 0) (none_there slots (suc k) none (omega arith)))

pub tested_some : (slots arity : ℕ) → slots ≢ 0
    → nat_eq slots 0 ≡ nat_eq (slots ^ arity) 0
tested_some slots arity some =
    first (eqb_tells slots 0) ∙ sym (second (eqb_tells (slots ^ arity) 0))
  where
    first : ((nat_eq slots 0 ≡ true) × (slots ≡ 0)) ⊎ ((nat_eq slots 0 ≡ false) × (slots ≢ 0))
        → nat_eq slots 0 ≡ false
    first (inl is) = absurd (some is.1)
    first (inr other) = other.0

    second : ((nat_eq (slots ^ arity) 0 ≡ true) × (slots ^ arity ≡ 0))
        ⊎ ((nat_eq (slots ^ arity) 0 ≡ false) × (slots ^ arity ≢ 0))
        → nat_eq (slots ^ arity) 0 ≡ false
    second (inl is) = absurd (let more = some_there slots arity some in
        let none = is.1 in omega (arith, more, none))
    second (inr other) = other.0

-- ---- as a test

pub decided_none : (slots arity : ℕ) → slots ≡ 0
    → IsTrue (nat_lt 0 arity) ↔ (slots ^ arity ≡ 0)
decided_none slots arity none = (
  λ some. none_there slots arity none (ltb-true 0 arity some),
  λ empty. lt-ltb 0 arity (more arity empty),
)
  where
    more : (k : ℕ) → slots ^ k ≡ 0 → 0 < k
    more zero empty = absurd (omega (arith, empty, pow-zero slots))
    more (suc k) empty = omega arith

pub decided_some : (slots arity : ℕ) → slots ≢ 0
    → IsTrue (nat_eq slots 0) ↔ (slots ^ arity ≡ 0)
decided_some slots arity some = (
  λ is. absurd (equal is (eqb_tells slots 0)),
  λ empty. absurd (let more = some_there slots arity some in omega (arith, more, empty)),
)
  where
    equal : nat_eq slots 0 ≡ true
        → ((nat_eq slots 0 ≡ true) × (slots ≡ 0)) ⊎ ((nat_eq slots 0 ≡ false) × (slots ≢ 0)) → ⊥
    equal is (inl same) = some same.1
    equal is (inr other) = let differ : true ≡ false = sym is ∙ other.0 in cc
