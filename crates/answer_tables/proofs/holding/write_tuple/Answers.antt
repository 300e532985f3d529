use Rattle.std.proofs.Common.{◌≡◌, ◌+◌, ◌-◌, ◌*◌, ◌/◌, ◌%◌, ◌^◌, ◌<◌, ◌≤◌, ◌++◌, ◌∷◌, [], ℕ, List}
use Rattle.std.proofs.Common.{length, sym, ◌∙◌, ap, subst, arith, length-append}
use Rattle.std.proofs.lemmas.List.Elements.{All-push}
use Rattle.std.proofs.Math.Nat.{pow-le-pow_right}
use Rattle.dl_syntax.specs.declared.names.IndId.{IndId}
use Rattle.answer_tables.specs.Tuples.{number}
use Rattle.answer_tables.proofs.Numbers.{Digits, number-push, some_slots}
use Rattle.answer_tables.proofs.Listing.{Digit, Digit-of}
use Rattle.answer_tables.proofs.holding.write_tuple.Goals as goal

pub tuple_count-weight-requires : goal.tuple_count-weight-requires
tuple_count-weight-requires c =
    let test = c.loop-places-test.true in
    let some : 0 < c.args.slots =
    some_slots c.args.slots c.loop-places.places c.loop-places.rest
    c.loop-places.invariant.within (omega (arith, test)) in
    let less : c.args.slots ^ (c.loop-places.places - 1) ≤ c.args.slots ^ c.args.arity =
    pow-le-pow_right some (omega (arith, c.loop-places.invariant.few)) in
    omega (arith, less, c.requires.few)

pub loop-places-preserved : goal.loop-places-preserved
loop-places-preserved c =
    let slots = c.args.slots in
    let places = c.loop-places.places in
    let rest = c.loop-places.rest in
    let w = c.tuple_count-weight.result in
    let xs = c.loop-places.tuple.items in
    let some : 0 < places = (let test = c.loop-places-test.true in omega (arith, test)) in
    let digit : Digit slots places rest w =
    Digit-of slots places rest w c.tuple_count-weight.ensures some
    c.loop-places.invariant.within in
    let x : IndId = record { 0 = rest / w } in
    let items : c.push.new.self.items ≡ xs ++ x ∷ [] = c.in_ok-push.ensures.items in
    let long : length c.push.new.self.items ≡ length xs + 1 =
    ap (λ (ys : List IndId). length ys) items ∙ length-append xs (x ∷ []) in
    let told : number slots (xs ++ x ∷ []) * w + rest % w ≡ c.args.rank =
    ap (λ (n : ℕ). n * w + rest % w) (number-push slots xs x) ∙ joined (number slots xs) w
    (rest / w) (rest % w) slots
    ∙ ap (λ (n : ℕ). number slots xs * (w * slots) + n) digit.whole ∙ ap (λ (p : ℕ).
    number slots xs * p + rest) (sym digit.power) ∙ c.loop-places.invariant.told in
    record {
      few = omega (arith, c.loop-places.invariant.few);
      long = omega (arith, long, c.loop-places.invariant.long, some);
      digits = subst (Digits slots) (sym items)
          (All-push (λ (i : IndId). i.0 < slots) xs x c.loop-places.invariant.digits digit.digit);
      within = subst (λ (p : ℕ). rest % w < p) c.tuple_count-weight.ensures digit.within;
      told = ap (λ (ys : List IndId). number slots ys * slots ^ (places - 1) + rest % w) items ∙ ap
          (λ (p : ℕ). number slots (xs ++ x ∷ []) * p + rest % w)
          (sym c.tuple_count-weight.ensures) ∙ told;
    }
  where
    joined : (n w q r s : ℕ) → (n * s + q) * w + r ≡ n * (w * s) + (w * q + r)
    joined n w q r s = omega arith
