-- A table over more slots.
use Rattle.std.proofs.Common.{◌≡◌, ℕ, zero, suc, ◌+◌, ◌-◌, ◌*◌, ◌^◌, ◌<◌, ◌≤◌, List, [], ◌∷◌}
use Rattle.std.proofs.Common.{length, min, refl, sym, ◌∙◌, ap, subst, arith, zero-add}
use Rattle.std.specs.Prelude.{All, slice_index_or}
use Rattle.std.proofs.Math.Nat.{pow-suc, pow-zero}
use Rattle.dl_syntax.specs.declared.names.IndId.{IndId}
use Rattle.answer_tables.specs.declared.run.Run.{Run}
use Rattle.answer_tables.specs.Runs.{link_at, NamedBelow}
use Rattle.answer_tables.specs.Tuples.{IsTuple, number}
use Rattle.answer_tables.specs.Table.{Antichains, at, AreRuns, AreUsed, view_of}
use Rattle.answer_tables.specs.Spreading.{weighed, reach, place_weights, narrowed, Spread}
use Rattle.answer_tables.proofs.Numbers.{tuple_at, tuple_below, digits_cons}
use Rattle.answer_tables.proofs.Views.{at_view}

pub length_place : (slots k : ℕ) → length (place_weights slots k) ≡ k
length_place slots zero = refl
length_place slots (suc k) = ap suc (length_place slots k)

pub reach_place : (slots k : ℕ) → 0 < slots
    → reach (slots - 1) (place_weights slots k) + 1 ≡ slots ^ k
reach_place slots zero some = sym (pow-zero slots)
reach_place slots (suc k) some =
    let rest = reach_place slots k some in
    let whole : slots ^ k * (slots - 1) + slots ^ k ≡ slots ^ k * slots =
    sym (spread (slots ^ k) (slots - 1)) ∙ ap (λ (m : ℕ).
    slots ^ k * m) (omega (arith, some)) in
    omega (arith, rest, whole, pow-suc slots k, unfolded)
  where
    spread : (p m : ℕ) → p * (m + 1) ≡ p * m + p
    spread p m = omega arith

    unfolded : reach (slots - 1) (place_weights slots (suc k))
        ≡ slots ^ k * (slots - 1) + reach (slots - 1) (place_weights slots k)
    unfolded = refl

length_narrowed : (slots : ℕ) (t : List IndId) → length (narrowed slots t) ≡ length t
length_narrowed slots [] = refl
length_narrowed slots (i ∷ t) = ap suc (length_narrowed slots t)

pub weighed_place : (slots k : ℕ) (t : List IndId) → length t ≡ k
    → weighed (slots - 1) (place_weights slots k) t ≡ number slots (narrowed slots t)
weighed_place slots zero [] long = refl
weighed_place slots zero (i ∷ t) long = absurd (omega (arith, long))
weighed_place slots (suc k) [] long = absurd (omega (arith, long))
weighed_place slots (suc k) (i ∷ t) long =
    let short : length t ≡ k = omega (arith, long) in
    let same : length (narrowed slots t) ≡ k = length_narrowed slots t ∙ short in
    ap (λ (m : ℕ). slots ^ k * min i.0 (slots - 1) + m) (weighed_place slots k t short)
    ∙ ap (λ (p : ℕ). p * min i.0 (slots - 1) + number slots (narrowed slots t))
    (sym (ap (λ (m : ℕ). slots ^ m) same))
    ∙ omega arith

tail : (slots : ℕ) (i : IndId) (t : List IndId) → All (λ (j : IndId). j.0 < slots) (i ∷ t)
    → All (λ (j : IndId). j.0 < slots) t
tail slots i t all k d within = all (suc k) d (omega (arith, within))

pub narrowed_tuple : (slots k : ℕ) (t : List IndId) → 0 < slots → length t ≡ k
    → IsTuple slots k (narrowed slots t)
narrowed_tuple slots zero [] some long = (refl, λ k d within. absurd (omega (arith, within)))
narrowed_tuple slots zero (i ∷ t) some long = absurd (omega (arith, long))
narrowed_tuple slots (suc k) [] some long = absurd (omega (arith, long))
narrowed_tuple slots (suc k) (i ∷ t) some long =
    let rest = narrowed_tuple slots k t some (omega (arith, long)) in (
      ap suc rest.0,
      digits_cons slots (record {
        0 =
            min i.0 (slots - 1);
      }) (narrowed slots t) (omega (arith, some)) rest.1,
    )

pub narrowed_same : (slots : ℕ) (t : List IndId) → All (λ (i : IndId). i.0 < slots) t
    → narrowed slots t ≡ t
narrowed_same slots [] all = refl
narrowed_same slots (i ∷ t) all =
    let first = all zero i (omega arith) in
    let same : min i.0 (slots - 1) ≡ i.0 = omega (arith, first) in
    ap (λ (n : ℕ). (record { 0 = n }) ∷ narrowed slots t) same ∙ ap (λ (ts : List IndId).
    i ∷ ts) (narrowed_same slots t (tail slots i t all))

pub wider : (slots wide arity : ℕ) (t : List IndId) → slots ≤ wide → IsTuple slots arity t
    → IsTuple wide arity t
wider slots wide arity t more is =
    (is.0, λ k d within. let less = is.1 k d within in omega (arith, less, more))

module _ (slots wide arity : ℕ) (more : slots ≤ wide) (links : List (List ℕ))
    (runs before new : List Run) (some : 0 < slots)
    (are : AreRuns slots arity links runs) (used : AreUsed (slots ^ arity) (length links) runs)
    (few : wide ^ arity ≤ 2 ^ 60) (none : before
    ≡ []) (so : Spread runs (place_weights slots arity) wide (slots - 1) 0 0 before new)
  where
    at_new : (t : List IndId) → IsTuple wide arity t
        → link_at new (number wide t) ≡ link_at runs (number slots (narrowed slots t))
    at_new t is = ap (link_at new) (omega arith) ∙ so.each t
        (is.0 ∙ sym (length_place slots arity), is.1) ∙ ap (link_at runs)
        (omega (arith, weighed_place slots arity t is.0))

    pub AreRuns-wider : AreRuns wide arity links new
    AreRuns-wider = record {
      rise = so.rise;
      ends = so.ends ∙ zero-add (wide ^ length (place_weights slots arity)) ∙ ap (λ (m : ℕ).
          wide ^ m) (length_place slots arity);
      few = few;
      named = so.named (length links) are.named
          (subst (NamedBelow (length links)) (sym none) (λ k d within.
          absurd (omega (arith, within))));
    }

    pub AreUsed-wider : AreUsed (wide ^ arity) (length links) new
    AreUsed-wider i within =
        let n = used i within in
        let found = tuple_at slots arity n.0 n.1 in
        let is : IsTuple wide arity found.0 = wider slots wide arity found.0 more found.1 in (
          number wide found.0,
          tuple_below wide arity found.0 is,
          at_new found.0 is ∙ ap (λ (t : List IndId).
              link_at runs (number slots t)) (narrowed_same slots found.0 found.1.1) ∙ ap
              (link_at runs) found.2 ∙ n.2,
        )

    pub at_wider : (t v : Antichains) → t ≡ view_of wide arity links new
        → view_of slots arity links runs ≡ v → (tuple : List IndId)
        → IsTuple wide arity tuple
        → at t tuple ≡ at v (narrowed slots tuple)
    at_wider t v is view tuple tup =
        ap (λ (w : Antichains). at w tuple) is ∙ at_view wide arity links new tuple tup ∙ ap
        (λ (k : ℕ). slice_index_or links k []) (at_new tuple tup)
        ∙ sym (at_view slots arity links runs (narrowed slots tuple)
        (narrowed_tuple slots arity tuple some tup.0)) ∙ ap (λ (w : Antichains).
        at w (narrowed slots tuple)) view
