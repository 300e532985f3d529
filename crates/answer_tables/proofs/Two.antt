-- Tables of two links.
use Rattle.std.proofs.Common.{◌≡◌, ℕ, zero, suc, ◌^◌, ◌<◌, List, [], ◌∷◌, length, refl, sym, ◌∙◌}
use Rattle.std.proofs.Common.{ap, subst, arith, inl, inr}
use Rattle.std.specs.Prelude.{◌⊎◌, All, slice_index_or, Result, Ok, Err, IfOk, OnOk}
use Rattle.std.specs.List.{Contains}
use Rattle.std.proofs.lemmas.Bool.{cases_lt}
use Rattle.dl_syntax.specs.declared.names.IndId.{IndId}
use Rattle.formula_store.specs.Interned.{interned}
use Rattle.formula_store.proofs.Lists.{Contains-interned}
use Rattle.answer_tables.specs.declared.run.Run.{Run}
use Rattle.answer_tables.specs.Runs.{link_at, end_from, NamedBelow}
use Rattle.answer_tables.specs.Tuples.{IsTuple, number}
use Rattle.answer_tables.specs.Table.{Antichains, at, AreUsed}
use Rattle.answer_tables.specs.Combining.{LinksAreIn}
use Rattle.answer_tables.specs.Marks.{part_on}
use Rattle.answer_tables.proofs.Runs.{link_at-named}
use Rattle.answer_tables.proofs.Numbers.{tuple_below}

abbrev pub pick : List ℕ → List ℕ → ℕ → List ℕ
pick first second k = slice_index_or (first ∷ second ∷ []) k []

module _ (slots arity : ℕ) (runs : List Run) (ends : end_from 0 runs
    ≡ slots ^ arity) (named : NamedBelow 2 runs) where
  below_two : (tuple : List IndId) → IsTuple slots arity tuple
      → link_at runs (number slots tuple) < 2
  below_two tuple tup = link_at-named 0 runs 2 (number slots tuple) named (omega arith) (let below =
      tuple_below slots arity tuple tup in omega (arith, below, ends))

  -- where a number is at no rank, the other is at each
  pub all_second : (first second : List ℕ)
      → ((n : ℕ) → n < end_from 0 runs → ¬ (link_at runs n ≡ 0)) → (tuple : List IndId)
      → IsTuple slots arity tuple → pick first second (link_at runs (number slots tuple)) ≡ second
  all_second first second none tuple tup =
      let small = below_two tuple tup in
      let differ : ¬ (link_at runs (number slots tuple) ≡ 0) =
      none (number slots tuple) (let below = tuple_below slots arity tuple tup in
      omega (arith, below, ends)) in
      let is : link_at runs (number slots tuple) ≡ 1 =
      elim (cases_lt zero (link_at runs (number slots tuple))) [
        | inl more ↦
            omega (arith, small, more)
        | inr least ↦ absurd (differ (omega (arith, least)))
      ] in
      ap (pick first second) is

  pub all_first : (first second : List ℕ) → ((n : ℕ) → n < end_from 0 runs → ¬ (link_at runs n ≡ 1))
      → (tuple : List IndId) → IsTuple slots arity tuple
      → pick first second (link_at runs (number slots tuple)) ≡ first
  all_first first second none tuple tup =
      let small = below_two tuple tup in
      let differ : ¬ (link_at runs (number slots tuple) ≡ 1) =
      none (number slots tuple) (let below = tuple_below slots arity tuple tup in
      omega (arith, below, ends)) in
      let is : link_at runs (number slots tuple) ≡ 0 =
      elim (cases_lt zero (link_at runs (number slots tuple))) [
        | inl more ↦
            absurd (differ (omega (arith, small, more)))
        | inr least ↦ omega (arith, least)
      ] in
      ap (pick first second) is

  pub both_used : (n : ℕ) × (n < end_from 0 runs) × (link_at runs n ≡ 0)
      → (n : ℕ) × (n < end_from 0 runs) × (link_at runs n ≡ 1) → AreUsed (slots ^ arity) 2 runs
  both_used one other zero within = (one.0, (let l = one.1 in omega (arith, l, ends)), one.2)
  both_used one other (suc zero) within =
      (other.0, (let l = other.1 in omega (arith, l, ends)), other.2)
  both_used one other (suc (suc i)) within = absurd (omega (arith, within))

  -- both links are in a list
  pub picked_in : (first second : List ℕ) (list : List (List ℕ)) (t : Antichains) → t.slots ≡ slots
      → t.arity ≡ arity → Contains list first → Contains list second
      → ((tuple : List IndId) → IsTuple slots arity tuple
      → at t tuple ≡ pick first second (link_at runs (number slots tuple))) → LinksAreIn t list
  picked_in first second list t slots_is arity_is one other each tuple tup =
      let here : IsTuple slots arity tuple =
      subst (λ (s : ℕ). IsTuple s arity tuple) slots_is
      (subst (λ (k : ℕ). IsTuple t.slots k tuple) arity_is tup) in
      subst (Contains list) (sym (each tuple here))
      (go (link_at runs (number slots tuple)) (below_two tuple here))
    where
      go : (k : ℕ) → k < 2 → Contains list (pick first second k)
      go zero small = one
      go (suc zero) small = other
      go (suc (suc k)) small = absurd (omega (arith, small))

-- the one tuple without individuals
pub empty_tuple : (slots arity : ℕ) (tuple : List IndId) → (slots ≡ 0) ⊎ (arity ≡ 0)
    → IsTuple slots arity tuple → (arity ≡ 0) × (tuple ≡ [])
empty_tuple slots arity [] none tup = (sym tup.0, refl)
empty_tuple slots arity (i ∷ tuple) (inl none) tup =
    absurd (let less = tup.1 zero i (omega arith) in omega (arith, less, none))
empty_tuple slots arity (i ∷ tuple) (inr none) tup = absurd (omega (arith, none, tup.0))

no_places : (arity : ℕ) (places : List ℕ) → arity ≡ 0 → All (λ p. p < arity) places → places ≡ []
no_places arity [] none within = refl
no_places arity (p ∷ places) none within =
    absurd (let less = within zero p (omega arith) in omega (arith, less, none))

-- its part is the one row without individuals
pub empty_held : (slots arity : ℕ) (places : List ℕ) (rows : List (List IndId)) (tuple : List IndId)
    → (slots ≡ 0) ⊎ (arity ≡ 0) → All (λ p. p < arity) places → IsTuple slots arity tuple
    → Contains rows (part_on places tuple) → ¬ (rows ≡ [])
empty_held slots arity places rows tuple none within tup there is = let l = there.1 in
    omega (arith, l, ap (λ (rs : List (List IndId)). length rs) is)

pub empty_other : (slots arity : ℕ) (places : List ℕ) (rows : List (List IndId))
    (tuple : List IndId) → (slots ≡ 0) ⊎ (arity ≡ 0) → All (λ p. p < arity) places
    → All (λ row. length row ≡ length places) rows → IsTuple slots arity tuple
    → ¬ Contains rows (part_on places tuple) → rows ≡ []
empty_other slots arity places [] tuple none within wide tup absent = refl
empty_other slots arity places (row ∷ rows) tuple none within wide tup absent =
    let empty = empty_tuple slots arity tuple none tup in
    let placeless : places ≡ [] = no_places arity places empty.0 within in
    let short : length row ≡ 0 =
    wide zero row (omega arith) ∙ ap (λ (ps : List ℕ). length ps) placeless in
    let parts : part_on places tuple ≡ [] = ap (λ (ps : List ℕ). part_on ps tuple) placeless in
    absurd (absent (zero, omega arith, same row short ∙ sym parts))
  where
    same : (r : List IndId) → length r ≡ 0 → r ≡ []
    same [] short = refl
    same (i ∷ r) short = absurd (omega (arith, short))

-- what was interned is in the list
pub interned_there : {E : Type 0} (old new : List (List ℕ)) (antichain : List ℕ)
    (r : Result (List ℕ) E) → IfOk r (λ l. l ≡ antichain) → OnOk r (new ≡ interned old antichain)
    → IfOk r (Contains new)
interned_there old new antichain (Ok l) same is =
    subst (λ (antichains : List (List ℕ)). Contains antichains l) (sym is)
    (subst (Contains (interned old antichain)) (sym same) (Contains-interned old antichain))
interned_there old new antichain (Err e) same is = tt

-- what follows from three facts of a result
pub three_facts : {X E : Type 0} (r : Result X E) (P Q R S : X → Type 0)
    → ((x : X) → P x → Q x → R x → S x) → IfOk r P → IfOk r Q → IfOk r R → IfOk r S
three_facts (Ok x) P Q R S follows p q s = follows x p q s
three_facts (Err e) P Q R S follows p q s = tt
