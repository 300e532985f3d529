-- One more node: its antichain stands for its formula.
use Rattle.std.proofs.Common.{◌≡◌, ℕ, ◌+◌, ◌-◌, ◌^◌, ◌<◌, ◌≤◌, Bool, true, List, [], ◌∷◌, length}
use Rattle.std.proofs.Common.{refl, sym, ◌∙◌, ap, subst, arith, length-append}
use Rattle.std.specs.Prelude.{◌↔◌, Some, slice_get, slice_index_or}
use Rattle.std.proofs.lemmas.Bool.{false≢true}
use Rattle.std.proofs.Math.Pow.{pow_mono}
use Rattle.dl_syntax.specs.declared.names.IndId.{IndId}
use Rattle.dl_syntax.specs.declared.facts.Fact.{Fact}
use Rattle.dl_syntax.specs.declared.ontology.Inclusion.{Inclusion}
use Rattle.tcq_syntax.specs.declared.nodes.Node.{Node}
use Rattle.tcq_syntax.specs.declared.nodes.Node.TheVariants as node
use Rattle.tcq_syntax.specs.Formula.{Formula, is_future, formula_of, formula_at, number_at, IsTable}
use Rattle.tcq_syntax.specs.Histories.{History, with_snapshot}
use Rattle.tcq_syntax.specs.End.{EndHolds, IsGrantedIn, Has}
use Rattle.tcq_syntax.proofs.Progression.{progression}
use Rattle.tcq_syntax.proofs.Tables.{formula_at-node}
use Rattle.tcq_syntax.specs.Laws.{granted_place}
use Rattle.antichains.specs.Sets.{holds}
use Rattle.antichains.specs.Antichain.{IsMinimal, values_at}
use Rattle.progression.specs.Step.{Stands, node_test, is_past, kept_formula, kept_place, AllStand}
use Rattle.progression.specs.Step.{AllGranted, LeafIs}
use Rattle.progression.proofs.Exact.{node_exact}
use Rattle.progression.proofs.Values.{Has-values_at, values_at-below}
use Rattle.progression.proofs.Parts.{EachFuture-kept}

through : (A B C : Type 0) → A ↔ B → B ↔ C → A ↔ C
through A B C p q = (λ a. q.0 (p.0 a), λ c. p.1 (q.1 c))

around : (A B : Type 0) → A ↔ B → B ↔ A
around A B p = (p.1, p.0)

same_tests : (a b : Bool) → a ≡ b → (a ≡ true) ↔ (b ≡ true)
same_tests a b e = (λ h. sym e ∙ h, λ h. e ∙ h)

-- the formula of the place that a past node asks
pub asked : (nodes : List Node) (table : IsTable nodes) (place : ℕ) (m : Node)
    → slice_get nodes place ≡ Some m → is_past m ≡ true
    → formula_at nodes (kept_place place m) ≡ kept_formula (formula_at nodes) m
asked nodes table place (node.Prev f) at past = refl
asked nodes table place (node.WeakPrev f) at past = refl
asked nodes table place (node.Since f g) at past =
    formula_at-node nodes table place (node.Since f g) at
asked nodes table place (node.Once f) at past = formula_at-node nodes table place (node.Once f) at
asked nodes table place (node.Historically f) at past =
    formula_at-node nodes table place (node.Historically f) at
asked nodes table place _ at past = absurd (false≢true past)

module _ (inclusions : List Inclusion) (history : History) (snapshot : List Fact) (row : List IndId)
    (nodes : List Node) (table : IsTable nodes) where
  abbrev grown : History
  grown = with_snapshot snapshot history

  abbrev n : ℕ
  n = length history.snapshots

  long : length grown.snapshots ≡ n + 1
  long = length-append history.snapshots (snapshot ∷ [])

  end : length grown.snapshots - 1 ≡ n
  end = omega (arith, long)

  abbrev New : ℕ → Formula → ℕ → Type 0
  New v f i = EndHolds inclusions grown v row f i

  -- what a antichain of the new history says at its last position
  stands_at : (f : Formula) (sets : List ℕ) → Stands inclusions grown row f sets → (v : ℕ) → v < 256
      → (holds sets v ≡ true) ↔ New v f n
  stands_at f sets stands v small =
      subst (λ (i : ℕ). (holds sets v ≡ true) ↔ New v f i) end (stands.same v small)

  module _ (count : ℕ) (antichain : ℕ
      → List ℕ) (values : List (List ℕ))
      (stand : AllStand inclusions grown row nodes count antichain)
      (granted : AllGranted [] nodes count antichain values) (v : ℕ) (small : v < 256) where
    abbrev Granted : Formula → Type 0
    Granted = IsGrantedIn inclusions grown v row n (values_at values v)

    -- a future node's number is in the set exactly where the node granted with it holds
    value_is : (place : ℕ) (m : Node) → place < count → slice_get nodes place ≡ Some m
        → is_future m ≡ true → (part : ℕ) → granted_place place m ≡ part → part < count
        → Has (values_at values v) (number_at nodes place) ↔ New v (formula_at nodes part) n
    value_is place m early at future part is within =
        let first : Has (values_at values v) (number_at nodes place)
        ↔ (holds (slice_index_or values (number_at nodes place) []) v ≡ true) =
        Has-values_at values v (number_at nodes place) in
        let same : slice_index_or values (number_at nodes place) [] ≡ antichain part =
        granted place m early at future ∙ ap antichain is in
        let second : Has (values_at values v) (number_at nodes place)
        ↔ (holds (antichain part) v ≡ true) =
        subst (λ (sets : List ℕ). Has (values_at values v) (number_at nodes place)
        ↔ (holds sets v ≡ true)) same first in
        through _ _ _ second (stands_at (formula_at nodes part) (antichain part) (stand part within)
        v small)

    own_value : (place : ℕ) (m : Node) → place < count → slice_get nodes place ≡ Some m
        → is_future m ≡ true → granted_place place m ≡ place
        → Has (values_at values v) (number_at nodes place)
        ↔ New v (formula_of (formula_at nodes) (number_at nodes place) m) n
    own_value place m early at future is =
        subst (λ (f : Formula). Has (values_at values v) (number_at nodes place)
        ↔ New v f n) (formula_at-node nodes table place m at)
        (value_is place m early at future place is early)

    granted_at : (place : ℕ) (m : Node) → place < count → slice_get nodes place ≡ Some m
        → is_future m ≡ true → Granted (formula_of (formula_at nodes) (number_at nodes place) m)
    granted_at place (node.Next f) early at future = let below : f < place =
        table place (node.Next f) at in
        value_is place (node.Next f) early at future f refl (omega arith)
    granted_at place (node.WeakNext f) early at future = let below : f < place =
        table place (node.WeakNext f) at in
        value_is place (node.WeakNext f) early at future f refl (omega arith)
    granted_at place (node.Until f g) early at future =
        own_value place (node.Until f g) early at future refl
    granted_at place (node.Eventually f) early at future =
        own_value place (node.Eventually f) early at future refl
    granted_at place (node.Always f) early at future =
        own_value place (node.Always f) early at future refl
    granted_at place _ early at future = absurd (false≢true future)

    -- what the old antichain says under the granted set
    before_exact : (m : Node) → slice_get nodes count ≡ Some m → length values ≤ 8 → (old : List ℕ)
        → Stands inclusions history row (formula_at nodes (kept_place count m)) old
        → is_past m ≡ true → 0 < n →
        (holds old (values_at values v) ≡ true) ↔ New v (kept_formula (formula_at nodes) m) (n - 1)
    before_exact m at few old stands past later =
        let less : values_at values v < 256 =
        omega (
          arith,
          values_at-below values v,
          let up : 2 ^ length values ≤ 2 ^ 8 =
              pow_mono few in up,
        ) in
        let first : (holds old (values_at values v) ≡ true)
        ↔ EndHolds inclusions history (values_at values v) row
        (formula_at nodes (kept_place count m)) (n - 1) =
        stands.same (values_at values v) less in
        let second : (holds old (values_at values v) ≡ true)
        ↔ EndHolds inclusions history (values_at values v) row
        (kept_formula (formula_at nodes) m) (n - 1) =
        subst (λ (f : Formula). (holds old (values_at values v) ≡ true)
        ↔ EndHolds inclusions history (values_at values v) row f (n - 1))
        (asked nodes table count m at past) first in
        through _ _ _ second (around _ _
        (progression inclusions history snapshot row v (values_at values v)
        (kept_formula (formula_at nodes) m)
        (EachFuture-kept Granted nodes table count granted_at m (table count m at)) (n - 1)
        (omega arith)))

  pub stands_next : (count : ℕ) (antichain : ℕ → List ℕ) (values : List (List ℕ))
      → AllStand inclusions grown row nodes count antichain
      → AllGranted [] nodes count antichain values → length values ≤ 8 →
      (m : Node) → slice_get nodes count ≡ Some m → (first leaf : Bool) → (first ≡ true) ↔ (n ≡ 0)
      → (old : List ℕ) → (before : ℕ → Bool)
      → ((v : ℕ) → v < 256 → before v ≡ holds old (values_at values v)) →
      (is_past m ≡ true → 0 < n
      → Stands inclusions history row (formula_at nodes (kept_place count m)) old) →
      LeafIs inclusions grown row n leaf m → (new : List ℕ) →
      IsMinimal (node_test first (number_at nodes count) antichain before leaf m) new →
      Stands inclusions grown row (formula_at nodes count) new
  stands_next count antichain values stand granted few m at first leaf is_first old before says kept
      answer new minimal = record { antichain = minimal.antichain; same = same }
    where
      exact : (v : ℕ) → v < 256 → (holds new v ≡ true)
          ↔ New v (formula_of (formula_at nodes) (number_at nodes count) m) n
      exact v small =
          through _ _ _ (same_tests _ _ (minimal.same v small))
          (node_exact inclusions grown row v n long first (number_at nodes count) count antichain
          (formula_at nodes) before leaf is_first
          (λ c below. stands_at (formula_at nodes c) (antichain c) (stand c below) v small) m
          (table count m at)
          (λ past later. through _ _ _ (same_tests (before v) (holds old (values_at values v))
          (says v small)) (before_exact count antichain values stand granted v small m at few
          old (kept past later) past later)) answer)

      same : (v : ℕ) → v < 256 → (holds new v ≡ true)
          ↔ New v (formula_at nodes count) (length grown.snapshots - 1)
      same v small =
          subst (λ (i : ℕ). (holds new v ≡ true) ↔ New v (formula_at nodes count) i) (sym end)
          (subst (λ (f : Formula). (holds new v ≡ true)
          ↔ New v f n) (sym (formula_at-node nodes table count m at)) (exact v small))
