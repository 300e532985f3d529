use Rattle.std.proofs.Common.{◌≡◌, ◌-◌, ◌^◌, ◌<◌, ◌≤◌, ◌++◌, ◌∷◌, [], ℕ, List, suc, zero, sym, ◌∙◌}
use Rattle.std.proofs.Common.{ap, arith, append_assoc}
use Rattle.std.proofs.Math.Nat.{pow-le-pow_right}
use Rattle.answer_tables.specs.Spreading.{place_weights}
use Rattle.answer_tables.proofs.widen.weights_of_places.Goals as goal

next : (slots k : ℕ) → 0 < k → place_weights slots k ≡ slots ^ (k - 1) ∷ place_weights slots (k - 1)
next slots zero some = absurd (omega (arith, some))
next slots (suc k) some = ap (λ (m : ℕ). slots ^ m ∷ place_weights slots m) (omega arith)

pub tuple_count-requires : goal.tuple_count-requires
tuple_count-requires c =
    let less : c.args.slots ^ (c.loop-places.places - 1) ≤ c.args.slots ^ c.args.arity =
    pow-le-pow_right c.requires.some (omega (arith, c.loop-places.invariant.few)) in
    omega (arith, less, c.requires.few)

pub loop-places-preserved : goal.loop-places-preserved
loop-places-preserved c =
    let k : ℕ = c.loop-places.places - 1 in
    let some : 0 < c.loop-places.places =
    (let test = c.loop-places-test.true in omega (arith, test)) in
    record {
      few = omega (arith, c.loop-places.invariant.few);
      weights = c.loop-places.invariant.weights ∙ ap (λ (xs : List ℕ).
          c.loop-places.weights.items ++ xs) (next c.args.slots c.loop-places.places some)
          ∙ sym (append_assoc c.loop-places.weights.items (c.args.slots ^ k ∷ [])
          (place_weights c.args.slots k))
          ∙ ap (λ (xs : List ℕ). xs ++ place_weights c.args.slots k)
          (ap (λ (x : ℕ). c.loop-places.weights.items ++ x ∷ [])
          (sym c.tuple_count.ensures) ∙ sym c.in_ok-push.ensures.items);
    }
