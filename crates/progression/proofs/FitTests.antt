-- What the tests of kept tables say.
use Rattle.std.proofs.Common.{◌≡◌, ℕ, ◌+◌, ◌-◌, ◌<◌, ◌≤◌, ◌^◌, List, length, get_or, bit_or, refl}
use Rattle.std.proofs.Common.{sym, ◌∙◌, ap, subst, arith, inl, inr}
use Rattle.std.specs.Prelude.{◌↔◌, Some, slice_get, slice_index_or, slice_set}
use Rattle.std.specs.List.{All, Contains}
use Rattle.std.proofs.lemmas.Bool.{cases_lt}
use Rattle.std.proofs.lemmas.List.{get_or_default, get_or-set_same, get_or-set_other}
use Rattle.std.proofs.lemmas.List.Elements.{All-contains}
use Rattle.list_lemmas.proofs.Elements.{All-from_contains}
use Rattle.tcq_syntax.specs.declared.nodes.Node.{Node}
use Rattle.tcq_syntax.specs.declared.nodes.Node.TheVariants as node
use Rattle.tcq_syntax.specs.Formula.{Formula, formula_at, formula_of, number_at, HasChildrenBelow}
use Rattle.tcq_syntax.specs.Formula.{IsTable}
use Rattle.tcq_syntax.specs.End.{Inside, future_set}
use Rattle.tcq_syntax.proofs.Tables.{formula_at-node}
use Rattle.answer_tables.specs.Table.{Antichains, at, HasAntichain}
use Rattle.progression.specs.Step.{joined_set}
use Rattle.progression.specs.Kept.{AreFutureSets, HasSetsWithin}

abbrev AreIn : ℕ → List ℕ → Type 0
AreIn own antichain = All (λ set. Inside set own) antichain

pub within_links : (table : Antichains) (links : List (List ℕ)) (own : ℕ)
    → ((antichain : List ℕ) → Contains links antichain ↔ HasAntichain table antichain)
    → All (AreIn own) links ↔ HasSetsWithin own table
within_links table links own exact = (
  λ all tuple tup. All-contains (AreIn own) links (at table tuple) all
      ((exact (at table tuple)).1 (tuple, tup, refl)),
  λ within. All-from_contains (AreIn own) links (λ antichain there. let some =
      (exact antichain).0 there in subst (AreIn own) some.2 (within some.0 some.1)),
)

pub HasChildrenBelow-le : (small large : ℕ) → small ≤ large → (n : Node) → HasChildrenBelow small n
    → HasChildrenBelow large n
HasChildrenBelow-le small large le node.True below = tt
HasChildrenBelow-le small large le node.False below = tt
HasChildrenBelow-le small large le (node.Leaf q) below = tt
HasChildrenBelow-le small large le (node.And f g) below =
    (omega (arith, le, below.0), omega (arith, le, below.1))
HasChildrenBelow-le small large le (node.Or f g) below =
    (omega (arith, le, below.0), omega (arith, le, below.1))
HasChildrenBelow-le small large le (node.Next f) below = omega (arith, le, below)
HasChildrenBelow-le small large le (node.WeakNext f) below = omega (arith, le, below)
HasChildrenBelow-le small large le (node.Prev f) below = omega (arith, le, below)
HasChildrenBelow-le small large le (node.WeakPrev f) below = omega (arith, le, below)
HasChildrenBelow-le small large le (node.Until f g) below =
    (omega (arith, le, below.0), omega (arith, le, below.1))
HasChildrenBelow-le small large le (node.Since f g) below =
    (omega (arith, le, below.0), omega (arith, le, below.1))
HasChildrenBelow-le small large le (node.Eventually f) below = omega (arith, le, below)
HasChildrenBelow-le small large le (node.Always f) below = omega (arith, le, below)
HasChildrenBelow-le small large le (node.Once f) below = omega (arith, le, below)
HasChildrenBelow-le small large le (node.Historically f) below = omega (arith, le, below)

-- the set of a node's formula, from the sets of its children's
joined_set-is : (number place : ℕ) (child : ℕ → ℕ) (formula : ℕ → Formula)
    → ((c : ℕ) → c < place → child c ≡ future_set (formula c)) → (n : Node)
    → HasChildrenBelow place n → joined_set number child n
    ≡ future_set (formula_of formula number n)
joined_set-is number place child formula same node.True below = refl
joined_set-is number place child formula same node.False below = refl
joined_set-is number place child formula same (node.Leaf q) below = refl
joined_set-is number place child formula same (node.And f g) below =
    let a : child f ≡ future_set (formula f) = same f below.0 in
    let b : child g ≡ future_set (formula g) = same g below.1 in cc
joined_set-is number place child formula same (node.Or f g) below =
    let a : child f ≡ future_set (formula f) = same f below.0 in
    let b : child g ≡ future_set (formula g) = same g below.1 in cc
joined_set-is number place child formula same (node.Next f) below =
    ap (bit_or (2 ^ number)) (same f below)
joined_set-is number place child formula same (node.WeakNext f) below =
    ap (bit_or (2 ^ number)) (same f below)
joined_set-is number place child formula same (node.Prev f) below = same f below
joined_set-is number place child formula same (node.WeakPrev f) below = same f below
joined_set-is number place child formula same (node.Until f g) below =
    let a : child f ≡ future_set (formula f) = same f below.0 in
    let b : child g ≡ future_set (formula g) = same g below.1 in cc
joined_set-is number place child formula same (node.Since f g) below =
    let a : child f ≡ future_set (formula f) = same f below.0 in
    let b : child g ≡ future_set (formula g) = same g below.1 in cc
joined_set-is number place child formula same (node.Eventually f) below =
    ap (bit_or (2 ^ number)) (same f below)
joined_set-is number place child formula same (node.Always f) below =
    ap (bit_or (2 ^ number)) (same f below)
joined_set-is number place child formula same (node.Once f) below = same f below
joined_set-is number place child formula same (node.Historically f) below = same f below

-- the places of the first so many entries rise
abbrev pub RiseTo : List (ℕ × Antichains) → ℕ → Type 0
RiseTo entries count = (i j : ℕ) (d : ℕ × Antichains) → i < j → j < count → j < length entries
    → (get_or entries i d).0 < (get_or entries j d).0

pub RiseTo-step : (entries : List (ℕ × Antichains)) (count : ℕ) (before here : ℕ × Antichains)
    → 1 ≤ count → count < length entries → before ≡ get_or entries (count - 1) before
    → here ≡ get_or entries count here → before.0 < here.0 → RiseTo entries count
    → RiseTo entries (count + 1)
RiseTo-step entries count before here some within before_is here_is less rise i j d order below
    long = elim (cases_lt j count) [
      | inl early ↦ rise i j d order early long
      | inr late ↦
          let at_j : (get_or entries j d).0 ≡ here.0 = let same : count ≡ j = omega arith in
          subst (λ (p : ℕ). (get_or entries p d).0
          ≡ here.0) same (ap (λ (e : ℕ × Antichains).
          e.0) (get_or_default entries count d here within ∙ sym here_is)) in
          let last : (get_or entries (count - 1) d).0 ≡ before.0 =
          ap (λ (e : ℕ × Antichains). e.0)
          (get_or_default entries (count - 1) d before (omega (arith, some, within)) ∙ sym
          before_is) in
          elim (cases_lt i (count - 1)) [
            | inl earlier ↦
                omega (
                  arith,
                  at_j,
                  last,
                  less,
                  rise i (count - 1) d earlier (omega (arith, some))
                      (omega (arith, some, within)),
                )
            | inr here_i ↦
                let same : count - 1 ≡ i = omega (arith, some, order) in
                let at_i : (get_or entries i d).0 ≡ before.0 =
                subst (λ (p : ℕ). (get_or entries p d).0 ≡ before.0) same last in
                omega (arith, at_i, at_j, less)
          ]
    ]

pub AreFutureSets-step : (nodes : List Node) → IsTable nodes → (place : ℕ) (n : Node)
    → slice_get nodes place ≡ Some n → (number : ℕ) → number ≡ number_at nodes place
    → (sets given new : List ℕ) → given ≡ sets → place < length sets
    → AreFutureSets nodes place sets → (value : ℕ)
    → value ≡ joined_set number (λ c. slice_index_or given c 0) n → new ≡ slice_set sets place value
    → AreFutureSets nodes (place + 1) new
AreFutureSets-step nodes table place n at number number_is sets given new given_is within are value
    value_is new_is c below = elim (cases_lt c place) [
      | inl early ↦ ap (λ (xs : List ℕ). slice_index_or xs c 0) new_is ∙ get_or-set_other sets place
          c
          value 0 (λ same. omega (arith, same, early)) ∙ are c early
      | inr late ↦
          let same : place ≡ c = omega arith in
          let made : joined_set (number_at nodes place) (λ k. slice_index_or sets k 0) n
          ≡ future_set (formula_of (formula_at nodes) (number_at nodes place) n) =
          joined_set-is (number_at nodes place) place (λ k.
          slice_index_or sets k 0) (formula_at nodes) are n (table place n at) in
          let whole : value ≡ future_set (formula_at nodes place) =
          value_is ∙ ap (λ (xs : List ℕ). joined_set number (λ k. slice_index_or xs k 0) n)
          given_is ∙ ap (λ (k : ℕ). joined_set k (λ c. slice_index_or sets c 0) n)
          number_is ∙ made ∙ ap future_set (sym (formula_at-node nodes table place n at)) in
          ap (λ (xs : List ℕ). slice_index_or xs c 0) new_is
          ∙ subst (λ (p : ℕ). slice_index_or (slice_set sets place value) p 0
          ≡ future_set (formula_at nodes p)) same
          (get_or-set_same sets place value 0 within ∙ whole)
    ]
