-- One more antichain, and one more value.
use Rattle.std.proofs.Common.{◌≡◌, ℕ, zero, suc, ◌+◌, ◌<◌, ◌≤◌, Bool, true, false, cond, List, []}
use Rattle.std.proofs.Common.{◌∷◌, ◌++◌, length, take, refl, sym, ◌∙◌, ap, subst, arith, inl, inr}
use Rattle.std.specs.Prelude.{Some, slice_get}
use Rattle.std.specs.List.{count_by}
use Rattle.std.proofs.lemmas.Bool.{cases_lt, false≢true}
use Rattle.std.proofs.lemmas.List.{get_or_append_left, get_or_push}
use Rattle.std.proofs.lemmas.List.Sums.{count_by_more_no, count_by_more_yes, sum_by-append}
use Rattle.std.proofs.lemmas.Option.{get_or_from_slice_get, slice_get_within}
use Rattle.dl_syntax.specs.declared.names.IndId.{IndId}
use Rattle.dl_syntax.specs.declared.ontology.Inclusion.{Inclusion}
use Rattle.tcq_syntax.specs.declared.nodes.Node.{Node}
use Rattle.tcq_syntax.specs.declared.nodes.Node.TheVariants as node
use Rattle.tcq_syntax.specs.Formula.{is_future, formula_at, number_at, HasChildrenBelow, IsTable}
use Rattle.tcq_syntax.specs.Histories.{History}
use Rattle.tcq_syntax.specs.Laws.{granted_place}
use Rattle.progression.specs.Step.{Stands, AllStand, AllGranted}

pub number_at-le : (nodes : List Node) (i k : ℕ) → i ≤ k → number_at nodes i ≤ number_at nodes k
number_at-le [] i k le = subst (λ (n : ℕ). n ≤ number_at [] k) (nothing i) (omega arith)
  where
    nothing : (j : ℕ) → 0 ≡ number_at [] j
    nothing zero = refl
    nothing (suc j) = refl
number_at-le (m ∷ nodes) zero k le = omega arith
number_at-le (m ∷ nodes) (suc i) zero le = absurd (omega arith)
number_at-le (m ∷ nodes) (suc i) (suc k) le = let deeper : number_at nodes i ≤ number_at nodes k =
    number_at-le nodes i k (omega arith) in
    let one : count_by is_future (m ∷ []) + number_at nodes i ≡ number_at (m ∷ nodes) (suc i) =
    sym (sum_by-append (λ x. cond (is_future x) 1 0) (m ∷ []) (take i nodes)) in
    let other : count_by is_future (m ∷ []) + number_at nodes k ≡ number_at (m ∷ nodes) (suc k) =
    sym (sum_by-append (λ x. cond (is_future x) 1 0) (m ∷ []) (take k nodes)) in
    omega (arith, one, other, deeper)

pub number_at-future : (nodes : List Node) (i : ℕ) (m : Node) → slice_get nodes i ≡ Some m
    → is_future m ≡ true → number_at nodes (i + 1) ≡ number_at nodes i + 1
number_at-future nodes i m at future =
    count_by_more_yes is_future nodes i m (slice_get_within nodes i m at)
    (ap is_future (get_or_from_slice_get nodes i m m at) ∙ future)

pub number_at-other : (nodes : List Node) (i : ℕ) (m : Node) → slice_get nodes i ≡ Some m
    → is_future m ≡ false → number_at nodes (i + 1) ≡ number_at nodes i
number_at-other nodes i m at other =
    count_by_more_no is_future nodes i m (slice_get_within nodes i m at)
    (ap is_future (get_or_from_slice_get nodes i m m at) ∙ other)

pub number_at-next : (nodes : List Node) (i : ℕ) (m : Node) → slice_get nodes i ≡ Some m
    → number_at nodes (i + 1) ≡ number_at nodes i + cond (is_future m) 1 0
number_at-next nodes i m at = go (is_future m) refl
  where
    go : (b : Bool) → is_future m ≡ b → number_at nodes (i + 1) ≡ number_at nodes i + cond b 1 0
    go true future = number_at-future nodes i m at future
    go false other = omega (arith, number_at-other nodes i m at other)

pub number_at-before : (nodes : List Node) (i k : ℕ) (m : Node) → slice_get nodes i ≡ Some m
    → is_future m ≡ true → i < k → number_at nodes i < number_at nodes k
number_at-before nodes i k m at future less =
    omega (arith, number_at-future nodes i m at future, number_at-le nodes (i + 1) k (omega arith))

-- a future node is below the limit of the numbers
pub number_at-few : (nodes : List Node) (i : ℕ) (m : Node) → slice_get nodes i ≡ Some m
    → is_future m ≡ true → number_at nodes (length nodes) ≤ 8 → number_at nodes i < 8
number_at-few nodes i m at future few =
    omega (
      arith,
      number_at-before nodes i (length nodes) m at future
          (slice_get_within nodes i m at),
    )

pub AllStand-push : (inclusions : List Inclusion) (history : History) (row : List IndId)
    (nodes : List Node) (count : ℕ) (old new : ℕ → List ℕ) → ((c : ℕ) → c < count → new c ≡ old c)
    → AllStand inclusions history row nodes count old
    → Stands inclusions history row (formula_at nodes count) (new count)
    → AllStand inclusions history row nodes (count + 1) new
AllStand-push inclusions history row nodes count old new same before next place within =
    elim (cases_lt place count) [
      | inl early ↦ subst (Stands inclusions history row (formula_at nodes place))
          (sym (same place early)) (before place early)
      | inr late ↦ let is : count ≡ place = omega arith in
          subst (λ (p : ℕ). Stands inclusions history row (formula_at nodes p) (new p)) is next
    ]

pub granted_place-le : (place : ℕ) (m : Node) → HasChildrenBelow place m
    → granted_place place m ≤ place
granted_place-le place (node.Next f) below = omega arith
granted_place-le place (node.WeakNext f) below = omega arith
granted_place-le place _ below = omega arith

pub one_node : (nodes : List Node) (place : ℕ) (one other : Node) → slice_get nodes place ≡ Some one
    → slice_get nodes place ≡ Some other → one ≡ other
one_node nodes place one other first second =
    sym (get_or_from_slice_get nodes place one one first) ∙ get_or_from_slice_get nodes place other
    one second

module _ (X : Type 0) (none : X) (nodes : List Node) (table : IsTable nodes) (count : ℕ) (m : Node)
    (at : slice_get nodes count ≡ Some m) (old new : ℕ → X) (values : List X) (same : (c : ℕ)
    → c < count → new c ≡ old c) (granted : AllGranted none nodes count old values) where
  earlier : (place : ℕ) (n : Node) → place < count → slice_get nodes place ≡ Some n
      → new (granted_place place n) ≡ old (granted_place place n)
  earlier place n early there =
      same (granted_place place n) (omega (arith, granted_place-le place n (table place n there)))

  pub AllGranted-other : is_future m ≡ false → AllGranted none nodes (count + 1) new values
  AllGranted-other other place n within there future = elim (cases_lt place count) [
    | inl early ↦ granted place n early there future ∙ sym (earlier place n early there)
    | inr late ↦
        let same : place ≡ count = omega arith in
        let is : n ≡ m = one_node nodes count n m
        (subst (λ (p : ℕ). slice_get nodes p ≡ Some n) same there) at in
        absurd (false≢true (sym other ∙ sym (ap is_future is) ∙ future))
  ]

  pub AllGranted-future : length values ≡ number_at nodes count → (value : X)
      → value ≡ new (granted_place count m)
      → AllGranted none nodes (count + 1) new (values ++ value ∷ [])
  AllGranted-future numbered value is_value place n within there future =
      elim (cases_lt place count) [
        | inl early ↦
            get_or_append_left values (value ∷ []) none (number_at nodes place)
            (omega (arith, numbered, number_at-before nodes place count n there future early))
            ∙ granted place n early there future ∙ sym (earlier place n early there)
        | inr late ↦
            let same : place ≡ count = omega arith in
            let is : n ≡ m = one_node nodes count n m
            (subst (λ (p : ℕ). slice_get nodes p ≡ Some n) same there) at in
            get_or_push values value none (number_at nodes place)
            (numbered ∙ ap (number_at nodes) (sym same))
            ∙ is_value ∙ ap (λ (k : Node). new (granted_place count k)) (sym is) ∙ ap (λ (p : ℕ).
            new (granted_place p n)) (sym same)
      ]
