-- How many distinct antichains tuples may have, and how long these are in all.
use Rattle.std.proofs.Common.{◌≡◌, ℕ, zero, suc, ◌+◌, ◌^◌, ◌≤◌, List, [], ◌∷◌, length, map, sym}
use Rattle.std.proofs.Common.{◌∙◌, ap, subst, inl, inr, arith}
use Rattle.std.specs.Prelude.{◌⊎◌, ◌≢◌}
use Rattle.std.specs.List.{Contains, sum_by}
use Rattle.std.proofs.lemmas.List.Elements.{All-contains}
use Rattle.std.proofs.lemmas.List.Sums.{sum_by-cons}
use Rattle.dl_syntax.specs.declared.names.IndId.{IndId}
use Rattle.list_lemmas.proofs.Elements.{Contains-none, Contains-first, Contains-later}
use Rattle.list_lemmas.proofs.Elements.{Contains-cons_cases, AllPairs-head, AllPairs-tail}
use Rattle.formula_store.specs.Interned.{AreDistinct}
use Rattle.answer_tables.specs.Tuples.{tuples}
use Rattle.answer_tables.specs.Table.{Antichains, HasAntichain, at}
use Rattle.answer_tables.specs.Laws.{FewAntichains}
use Rattle.answer_tables.proofs.Numbers.{Contains-map, from_map, all_tuples, only_tuples}
use Rattle.answer_tables.proofs.LinkLists.{tuples_many}

-- the list without one of its members
record Without (f : List ℕ → ℕ) (x : List ℕ) (ys : List (List ℕ)) : Type 0 where
  rest : List (List ℕ)
  total : sum_by f ys ≡ f x + sum_by f rest
  others : (z : List ℕ) → Contains ys z → (x ≡ z) ⊎ Contains rest z

module _ (f : List ℕ → ℕ) where
  without : (x : List ℕ) (ys : List (List ℕ)) → Contains ys x → Without f x ys
  without x [] there = absurd (Contains-none x there)
  without x (y ∷ ys) (zero, below, is) = record {
    rest = ys;
    total = sum_by-cons f y ys ∙ ap (λ (z : List ℕ). f z + sum_by f ys) is;
    others = λ z there. elim (Contains-cons_cases y ys z there) [
      | inl same ↦
          inl (sym is ∙ same)
      | inr later ↦ inr later
    ];
  }
  without x (y ∷ ys) (suc k, below, is) =
      let found : Without f x ys = without x ys (k, omega arith, is) in
      record {
        rest = y ∷ found.rest;
        total = omega (arith, sum_by-cons f y ys, sum_by-cons f y found.rest, found.total);
        others = λ z there. elim (Contains-cons_cases y ys z there) [
          | inl same ↦ inr (subst (Contains (y ∷ found.rest)) same (Contains-first y found.rest))
          | inr later ↦ elim (found.others z later) [
            | inl same ↦ inl same
            | inr rest ↦
                inr (Contains-later y found.rest z rest)
          ]
        ];
      }

  -- distinct members of a list weigh at most as much as the list
  pub total-le : (xs ys : List (List ℕ)) → AreDistinct xs
      → ((z : List ℕ) → Contains xs z → Contains ys z) → sum_by f xs ≤ sum_by f ys
  total-le [] ys distinct within = omega arith
  total-le (x ∷ xs) ys distinct within =
      let found : Without f x ys = without x ys (within x (Contains-first x xs)) in
      omega (
        arith,
        sum_by-cons f x xs,
        found.total,
        total-le xs found.rest
            (AllPairs-tail (λ x y. x ≢ y) x xs distinct) (rest found),
      )
    where
      rest : (found : Without f x ys) → (z : List ℕ) → Contains xs z → Contains found.rest z
      rest found z there = elim (found.others z (within z (Contains-later x xs z there))) [
        | inl same ↦ absurd (AllPairs-head (λ x y. x ≢ y) x xs z distinct there same)
        | inr later ↦ later
      ]

one_each : (xs : List (List ℕ)) → sum_by (λ x. 1) xs ≡ length xs
one_each [] = omega arith
one_each (x ∷ xs) = omega (arith, sum_by-cons (λ (y : List ℕ). 1) x xs, one_each xs)

pub length_map : {A B : Type 0} (f : A → B) (xs : List A) → length (map f xs) ≡ length xs
length_map f [] = omega arith
length_map f (x ∷ xs) = ap suc (length_map f xs)

-- the antichain of each tuple
abbrev pub antichains_of : Antichains → List (List ℕ)
antichains_of table = map (at table) (tuples table.slots table.arity)

pub antichains_many : (table : Antichains)
    → length (antichains_of table) ≡ table.slots ^ table.arity
antichains_many table = length_map (at table) (tuples table.slots table.arity) ∙ tuples_many
    table.slots table.arity

pub antichains_has : (table : Antichains) (antichain : List ℕ) → HasAntichain table antichain
    → Contains (antichains_of table) antichain
antichains_has table antichain (tuple, is, same) =
    subst (Contains (antichains_of table)) same
    (Contains-map (at table) (tuples table.slots table.arity) tuple
    (all_tuples table.slots table.arity tuple is))

pub few_antichains : FewAntichains
few_antichains table antichains distinct each =
    omega (
      arith,
      one_each antichains,
      one_each (antichains_of table),
      antichains_many table,
      total-le (λ x. 1) antichains (antichains_of table) distinct (λ z there.
          antichains_has table z (All-contains (HasAntichain table) antichains z each there)),
    )

-- and no other antichain is listed
pub antichains_only : (table : Antichains) (antichain : List ℕ)
    → Contains (antichains_of table) antichain → HasAntichain table antichain
antichains_only table antichain there =
    let found : (tuple : List IndId) × Contains (tuples table.slots table.arity) tuple
    × (at table tuple ≡ antichain) =
    from_map (at table) (tuples table.slots table.arity) antichain there in
    (found.0, only_tuples table.slots table.arity found.0 found.1, found.2)
