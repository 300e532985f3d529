-- Numbers given to the ranks of another table.
use Rattle.std.proofs.Common.{◌≡◌, ℕ, zero, suc, ◌+◌, ◌-◌, ◌*◌, ◌^◌, ◌<◌, ◌≤◌, List, [], ◌∷◌}
use Rattle.std.proofs.Common.{length, take, drop, min, length-drop, refl, sym, ◌∙◌, ap, subst}
use Rattle.std.proofs.Common.{arith, inl, inr}
use Rattle.std.specs.Prelude.{◌⊎◌, slice_index}
use Rattle.std.proofs.lemmas.Bool.{cases_lt}
use Rattle.std.proofs.Math.Nat.{pow-suc, pow-zero, pow-le-pow_right, mul-le-mul_left}
use Rattle.std.proofs.lemmas.List.{take_all}
use Rattle.dl_syntax.specs.declared.names.IndId.{IndId}
use Rattle.answer_tables.specs.declared.run.Run.{Run}
use Rattle.answer_tables.specs.Runs.{link_at, end_from, RiseFrom, NamedBelow, Extended}
use Rattle.answer_tables.specs.Tuples.{IsTuple, number}
use Rattle.answer_tables.specs.Spreading.{weighed, reach, Spread}
use Rattle.answer_tables.proofs.Runs.{link_at-named}
use Rattle.answer_tables.proofs.Numbers.{tuple_below}

weighed_cons : (limit w : ℕ) (ws : List ℕ) (i : IndId) (t : List IndId)
    → weighed limit (w ∷ ws) (i ∷ t) ≡ w * min i.0 limit + weighed limit ws t
weighed_cons limit w ws i t = refl

reach_cons : (limit w : ℕ) (ws : List ℕ) → reach limit (w ∷ ws) ≡ w * limit + reach limit ws
reach_cons limit w ws = refl

number_cons : (slots : ℕ) (i : IndId) (t : List IndId)
    → number slots (i ∷ t) ≡ i.0 * slots ^ length t + number slots t
number_cons slots i t = refl

pub weighed_reach : (limit : ℕ) (ws : List ℕ) (t : List IndId) → weighed limit ws t ≤ reach limit ws
weighed_reach limit [] t = omega arith
weighed_reach limit (w ∷ ws) [] = omega arith
weighed_reach limit (w ∷ ws) (i ∷ t) =
    let rest = weighed_reach limit ws t in
    let first : w * min i.0 limit ≤ w * limit = mul-le-mul_left w (omega arith) in
    omega (arith, rest, first, weighed_cons limit w ws i t, reach_cons limit w ws)

-- one number for all tuples
pub Spread-even : (runs before after : List Run) (weights : List ℕ) (slots limit old start : ℕ)
    (run : Run) → run.link ≡ link_at runs old
    → ((n : ℕ) → old ≤ n → n < run.end → link_at runs n ≡ link_at runs old)
    → old + reach limit weights < run.end → old < end_from 0 runs → end_from 0 before ≡ start
    → Extended before (record { end = start + slots ^ length weights; link = run.link }) after
    → Spread runs weights slots limit old start before after
Spread-even runs before after weights slots limit old start run link same far inside ends extended =
    record {
      rise = extended.rise;
      ends = extended.ends;
      kept = λ n below. extended.before n (omega (arith, below, ends));
      each = λ t is.
          let low = weighed_reach limit weights t in
          extended.since (start + number slots t) (omega (arith, ends)) (let small =
          tuple_below slots (length weights) t is in omega (arith, small)) ∙ link
          ∙ sym (same (old + weighed limit weights t) (omega arith) (omega (arith, low, far)));
      named = λ bound all small. extended.named bound small
          (subst (λ (k : ℕ). k < bound) (sym link)
          (link_at-named 0 runs bound old all (omega arith) inside));
    }

-- the tuples whose first digit is below one
pub record Spreading (runs : List Run) (w : ℕ) (ws : List ℕ) (slots limit old start : ℕ)
    (before after : List Run) (digit : ℕ) : Type 0 where
  pub rise : RiseFrom 0 after
  pub ends : end_from 0 after ≡ start + digit * slots ^ length ws
  pub kept : (n : ℕ) → n < start → link_at after n ≡ link_at before n
  pub each : (d : ℕ) → d < digit → (t : List IndId) → IsTuple slots (length ws) t
      → link_at after (start + (d * slots ^ length ws + number slots t))
      ≡ link_at runs (old + (w * min d limit + weighed limit ws t))
  pub named : (bound : ℕ) → NamedBelow bound runs → NamedBelow bound before → NamedBelow bound after

pub Spreading-start : (runs : List Run) (w : ℕ) (ws : List ℕ) (slots limit old start : ℕ)
    (before : List Run) → RiseFrom 0 before → end_from 0 before ≡ start
    → Spreading runs w ws slots limit old start before before 0
Spreading-start runs w ws slots limit old start before rise ends = record {
  rise = rise;
  ends = ends ∙ omega arith;
  kept = λ n below. refl;
  each = λ d less. absurd (omega (arith, less));
  named = λ bound all small. small;
}

pub Spreading-step : (runs : List Run) (w : ℕ) (ws : List ℕ) (slots limit old start : ℕ)
    (before after after' : List Run) (digit : ℕ)
    → Spreading runs w ws slots limit old start before after digit
    → Spread runs ws slots limit (old + w * min digit limit) (start + digit * slots ^ length ws)
    after after' → Spreading runs w ws slots limit old start before after' (digit + 1)
Spreading-step runs w ws slots limit old start before after after' digit so one = record {
  rise = one.rise;
  ends = one.ends ∙ omega arith;
  kept = λ n below. one.kept n (omega (arith, below)) ∙ so.kept n below;
  each = λ d less t is. each d less t is (cases_lt d digit);
  named = λ bound all small. one.named bound all (so.named bound all small);
}
  where
    each : (d : ℕ) → d < digit + 1 → (t : List IndId) → IsTuple slots (length ws) t
        → (d < digit) ⊎ (digit ≤ d)
        → link_at after' (start + (d * slots ^ length ws + number slots t))
        ≡ link_at runs (old + (w * min d limit + weighed limit ws t))
    each d less t is (inl early) =
        let small = tuple_below slots (length ws) t is in
        let part : slots ^ length ws * (d + 1) ≤ slots ^ length ws * digit =
        mul-le-mul_left (slots ^ length ws) (omega (arith, early)) in
        one.kept (start + (d * slots ^ length ws + number slots t))
        (omega (arith, small, part)) ∙ so.each d early t is
    each d less t is (inr late) =
        let same : digit ≡ d = omega (arith, less, late) in
        subst (λ (e : ℕ). link_at after' (start + (e * slots ^ length ws + number slots t))
        ≡ link_at runs (old + (w * min e limit + weighed limit ws t))) same
        (ap (link_at after') (omega arith) ∙ one.each t is ∙ ap (link_at runs) (omega arith))

-- a stretch of digits with one number
pub Spreading-even : (runs : List Run) (w : ℕ) (ws : List ℕ) (slots limit old start : ℕ)
    (before after after' : List Run) (digit until : ℕ) (run : Run)
    → Spreading runs w ws slots limit old start before after digit → digit < until
    → run.link ≡ link_at runs (old + w * min digit limit)
    → ((n : ℕ) → old + w * min digit limit ≤ n → n < run.end
    → link_at runs n ≡ link_at runs (old + w * min digit limit))
    → old + w * min digit limit < end_from 0 runs
    → ((d : ℕ) → digit ≤ d → d < until
    → old + w * min digit limit + reach limit ws + w * (min d limit - min digit limit) < run.end)
    → Extended after (record { end = start + until * slots ^ length ws; link = run.link }) after'
    → Spreading runs w ws slots limit old start before after' until
Spreading-even runs w ws slots limit old start before after after' digit until run so more link same
    inside even extended = record {
      rise = extended.rise;
      ends = extended.ends;
      kept = λ n below. extended.before n (omega (arith, below, so.ends)) ∙ so.kept n below;
      each = λ d less t is. each d less t is (cases_lt d digit);
      named = λ bound all small. extended.named bound (so.named bound all small)
          (subst (λ (k : ℕ). k < bound) (sym link)
          (link_at-named 0 runs bound (old + w * min digit limit) all (omega arith) inside));
    }
  where
    each : (d : ℕ) → d < until → (t : List IndId) → IsTuple slots (length ws) t
        → (d < digit) ⊎ (digit ≤ d)
        → link_at after' (start + (d * slots ^ length ws + number slots t))
        ≡ link_at runs (old + (w * min d limit + weighed limit ws t))
    each d less t is (inl early) =
        let small = tuple_below slots (length ws) t is in
        let part : slots ^ length ws * (d + 1) ≤ slots ^ length ws * digit =
        mul-le-mul_left (slots ^ length ws) (omega (arith, early)) in
        extended.before (start + (d * slots ^ length ws + number slots t))
        (omega (arith, small, part, so.ends)) ∙ so.each d early t is
    each d less t is (inr late) =
        let small = tuple_below slots (length ws) t is in
        let part : slots ^ length ws * (d + 1) ≤ slots ^ length ws * until =
        mul-le-mul_left (slots ^ length ws) (omega (arith, less)) in
        let above : slots ^ length ws * digit ≤ slots ^ length ws * d =
        mul-le-mul_left (slots ^ length ws) late in
        let up : min digit limit ≤ min d limit = omega (arith, late) in
        let heavier : w * min digit limit ≤ w * min d limit = mul-le-mul_left w up in
        let apart : w * min d limit ≡ w * min digit limit + w * (min d limit - min digit limit) =
        ap (λ (k : ℕ). w * k) (let e : min d limit
        ≡ min digit limit + (min d limit - min digit limit) = omega (arith, up) in
        e) ∙ distribute w (min digit limit) (min d limit - min digit limit) in
        let low = weighed_reach limit ws t in
        let far = even d late less in
        extended.since (start + (d * slots ^ length ws + number slots t))
        (omega (arith, above, so.ends)) (omega (arith, small, part)) ∙ link
        ∙ sym (same (old + (w * min d limit + weighed limit ws t)) (omega (arith, heavier))
        (omega (arith, apart, low, far)))
      where
        distribute : (p a b : ℕ) → p * (a + b) ≡ p * a + p * b
        distribute p a b = omega arith

pub Spread-whole : (runs : List Run) (w : ℕ) (ws : List ℕ) (slots limit old start : ℕ)
    (before after : List Run) → Spreading runs w ws slots limit old start before after slots
    → Spread runs (w ∷ ws) slots limit old start before after
Spread-whole runs w ws slots limit old start before after so = record {
  rise = so.rise;
  ends = so.ends ∙ ap (λ (k : ℕ). start + k) (omega (arith, pow-suc slots (length ws)));
  kept = so.kept;
  each = each;
  named = so.named;
}
  where
    each : (t : List IndId) → IsTuple slots (suc (length ws)) t
        → link_at after (start + number slots t) ≡ link_at runs (old + weighed limit (w ∷ ws) t)
    each [] is = absurd (omega (arith, is.0))
    each (i ∷ t) is =
        let long : length t ≡ length ws = omega (arith, is.0) in
        ap (λ (k : ℕ). link_at after (start + (i.0 * slots ^ k + number slots t))) long
        ∙ so.each i.0 (is.1 zero i (omega arith)) t (
          long,
          λ k d within.
              is.1 (suc k) d (omega (arith, within)),
        )

pub nonempty : (limit : ℕ) (weights : List ℕ) (old end : ℕ) → old < end
    → end ≤ old + reach limit weights → 0 < length weights
nonempty limit [] old end ahead far = absurd (omega (arith, ahead, far))
nonempty limit (w ∷ ws) old end ahead far = omega arith

pub head_tail : (weights : List ℕ) → 0 < length weights
    → weights ≡ slice_index weights 0 ∷ drop 1 weights
head_tail [] some = absurd (omega (arith, some))
head_tail (w ∷ ws) some = refl

pub reach_split : (limit : ℕ) (weights : List ℕ) → 0 < length weights
    → reach limit weights ≡ slice_index weights 0 * limit + reach limit (drop 1 weights)
reach_split limit [] some = absurd (omega (arith, some))
reach_split limit (w ∷ ws) some = refl

pub length_split : (weights : List ℕ) → 0 < length weights
    → length weights ≡ suc (length (drop 1 weights))
length_split [] some = absurd (omega (arith, some))
length_split (w ∷ ws) some = refl

-- all but the first weight
pub tail_is : (weights : List ℕ) → take (length weights - 1) (drop 1 weights) ≡ drop 1 weights
tail_is weights = take_all (length weights - 1) (drop 1 weights)
    (omega (arith, length-drop 1 weights))

pub power_some : (slots k : ℕ) → 0 < slots → 0 < slots ^ k
power_some slots k some = let low : slots ^ zero ≤ slots ^ k =
    pow-le-pow_right some (omega arith) in omega (arith, low, pow-zero slots)

pub power_split : (slots arity : ℕ) → 0 < arity → slots ^ arity ≡ slots ^ (arity - 1) * slots
power_split slots zero some = absurd (omega (arith, some))
power_split slots (suc k) some = pow-suc slots k ∙ ap (λ (m : ℕ). slots ^ m * slots) (omega arith)
