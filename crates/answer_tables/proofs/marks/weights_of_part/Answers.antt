use Rattle.std.proofs.Common.{◌≡◌, ◌+◌, ◌-◌, ◌*◌, ◌^◌, ◌<◌, ◌≤◌, ◌++◌, ◌∷◌, [], ℕ, List, length}
use Rattle.std.proofs.Common.{take, set, sym, ◌∙◌, ap, subst, arith}
use Rattle.std.specs.Prelude.{slice_index_or}
use Rattle.std.proofs.lemmas.List.{take_more, take_all}
use Rattle.std.proofs.Math.Nat.{pow-le-pow_right, pow-zero}
use Rattle.answer_tables.specs.Marks.{WeighParts}
use Rattle.answer_tables.proofs.Parts.{Weighing, Weighing-start, Weighing-more, fewer_places}
use Rattle.answer_tables.proofs.Parts.{earlier_places}
use Rattle.answer_tables.proofs.Spreads.{power_split}
use Rattle.answer_tables.proofs.marks.weights_of_part.Goals as goal

pub loop-place-init : goal.loop-place-init
loop-place-init c = record {
  left = omega (arith, c.requires.count);
  weighing = Weighing-start c.args.slots c.args.arity (c.args.slots ^ c.args.count)
      c.in_ok-weights.weights.items (c.in_ok-weights.ensures.items_if_clones_equal (λ y is. is));
}

pub tuple_count-requires : goal.tuple_count-requires
tuple_count-requires c =
    let many : length c.args.places.now ≤ c.args.arity =
    fewer_places c.args.arity c.args.places.now c.requires.rising c.requires.within in
    let less : c.args.slots ^ (c.loop-place.left - 1) ≤ c.args.slots ^ c.args.arity =
    pow-le-pow_right c.requires.some (omega (arith, c.loop-place.invariant.left, many)) in
    omega (arith, less, c.requires.few)

pub loop-place-preserved : goal.loop-place-preserved
loop-place-preserved c =
    let slots = c.args.slots in
    let arity = c.args.arity in
    let places = c.args.places.now in
    let i = c.loop-place.place-index in
    let left = c.loop-place.left in
    let p : ℕ = slice_index_or places i 0 in
    let weights = c.loop-place.weights.items in
    let inside : i < length places = (let within = c.loop-place-test.true in
    omega (arith, within)) in
    let longer : take (i + 1) places ≡ take i places ++ p ∷ [] = take_more places i 0 inside in
    let power : slots ^ left ≡ slots ^ (left - 1) * slots =
    power_split slots left (omega (arith, c.loop-place.invariant.left, inside)) in
    record {
      left = omega (arith, c.loop-place.invariant.left, inside);
      weighing = subst (λ (front : List ℕ).
          Weighing slots arity front (slots ^ (left - 1)) (set weights p c.tuple_count.result))
          (sym longer)
          (subst (λ (w : ℕ). Weighing slots arity (take i places ++ p ∷ []) (slots ^ (left - 1))
          (set weights p w)) (sym c.tuple_count.ensures)
          (Weighing-more slots arity (take i places) p (slots ^ left) (slots ^ (left - 1)) weights
          c.requires.some power (c.requires.within i 0 inside)
          (earlier_places places i c.requires.rising inside) c.loop-place.invariant.weighing));
    }

pub returns : goal.returns
returns c =
    let slots = c.args.slots in
    let places = c.args.places.now in
    let past = c.loop-place-test.false in
    let none : c.loop-place.left ≡ 0 = omega (arith, past, c.loop-place.invariant.left) in
    let weigh = c.loop-place.invariant.weighing.weigh in
    subst (λ (k : ℕ). WeighParts slots c.args.arity places k c.loop-place.weights.items)
    (ap (λ (k : ℕ). slots ^ k) none ∙ pow-zero slots)
    (subst (λ (front : List ℕ). WeighParts slots c.args.arity front (slots ^ c.loop-place.left)
    c.loop-place.weights.items) (take_all c.loop-place.place-index places (omega (arith, past)))
    weigh)
