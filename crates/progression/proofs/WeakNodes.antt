-- The set of the weak nodes, as far as the search has come.
use Rattle.std.proofs.Common.{◌≡◌, ℕ, ◌+◌, ◌<◌, ◌≤◌, ◌^◌, Bool, true, false, List, length, bit_or}
use Rattle.std.proofs.Common.{refl, sym, subst, arith, inl, inr}
use Rattle.std.specs.Prelude.{◌↔◌, Some, slice_get, if◌then◌else◌}
use Rattle.std.proofs.lemmas.Bool.{cases_lt, false≢true}
use Rattle.std.proofs.lemmas.Option.{slice_get_within}
use Rattle.tcq_syntax.specs.declared.nodes.Node.{Node}
use Rattle.tcq_syntax.specs.declared.nodes.Node.TheVariants as node
use Rattle.tcq_syntax.specs.Formula.{is_future, number_at}
use Rattle.tcq_syntax.specs.End.{Has}
use Rattle.tcq_syntax.specs.Laws.{IsWeakNode, IsWeakSet}
use Rattle.tcq_syntax.proofs.Sets.{Has-pow, Has-or_left, Has-or_right}
use Rattle.progression.specs.Step.{is_weak, with_weak}
use Rattle.progression.proofs.OwnSets.{Has-or_cases, Has-pow_only}
use Rattle.progression.proofs.Pushes.{number_at-before, number_at-future, number_at-other, one_node}

pub record IsWeakTo (nodes : List Node) (i set : ℕ) : Type 0 where
  pub each : (place : ℕ) (n : Node) → place < i → slice_get nodes place ≡ Some n
      → is_future n ≡ true → Has set (number_at nodes place) ↔ IsWeakNode n
  pub none : (k : ℕ) → number_at nodes i ≤ k → Has set k → ⊥

weak_node : (n : Node) → is_weak n ≡ true → IsWeakNode n
weak_node (node.WeakNext f) weak = tt
weak_node (node.Always f) weak = tt
weak_node _ weak = absurd (false≢true weak)

not_weak_node : (n : Node) → is_weak n ≡ false → IsWeakNode n → ⊥
not_weak_node (node.WeakNext f) other weak = false≢true (sym other)
not_weak_node (node.Always f) other weak = false≢true (sym other)
not_weak_node _ other weak = weak

weak_future : (n : Node) → is_weak n ≡ true → is_future n ≡ true
weak_future (node.WeakNext f) weak = refl
weak_future (node.Always f) weak = refl
weak_future _ weak = absurd (false≢true weak)

pub IsWeakTo-start : (nodes : List Node) → IsWeakTo nodes 0 0
IsWeakTo-start nodes = record {
  each =
      λ place n within at future. absurd (omega (arith, within));
  none = λ k le has. has refl;
}

module _ (nodes : List Node) (i set : ℕ) (weak : IsWeakTo nodes i set) (m : Node)
    (there : slice_get nodes i ≡ Some m) where
  abbrev number : ℕ
  number = number_at nodes i

  more : is_weak m ≡ true → IsWeakTo nodes (i + 1) (bit_or set (2 ^ number))
  more is = record {
    each = λ place n within at future. elim (cases_lt place i) [
      | inl early ↦
          let less : number_at nodes place < number =
          number_at-before nodes place i n at future early in
          let before = weak.each place n early at future in (
            λ has. before.0 (elim (Has-or_cases set (2 ^ number) (number_at nodes place) has) [
              | inl x ↦ x
              | inr y ↦
                  absurd (omega (arith, less, Has-pow_only number (number_at nodes place) y))
            ]),
            λ node. Has-or_left set (2 ^ number) (number_at nodes place) (before.1 node),
          )
      | inr late ↦
          let same : i ≡ place = omega arith in
          let one : m ≡ n =
          one_node nodes place m n (subst (λ (p : ℕ). slice_get nodes p ≡ Some m) same there)
          at in (
            λ has. subst IsWeakNode one (weak_node m is),
            λ node. subst (λ (p : ℕ). Has (bit_or set (2 ^ number)) (number_at nodes p)) same
                (Has-or_right set (2 ^ number) number (Has-pow number)),
          )
    ];
    none = λ k le has.
        let next : number_at nodes (i + 1) ≡ number + 1 =
        number_at-future nodes i m there (weak_future m is) in
        elim (Has-or_cases set (2 ^ number) k has) [
          | inl x ↦ weak.none k (omega (arith, le, next)) x
          | inr y ↦ omega (arith, le, next, Has-pow_only number k y)
        ];
  }

  same_set : is_weak m ≡ false → IsWeakTo nodes (i + 1) set
  same_set other = record {
    each = λ place n within at future. elim (cases_lt place i) [
      | inl early ↦ weak.each place n early at future
      | inr late ↦
          let same : i ≡ place = omega arith in
          let one : m ≡ n =
          one_node nodes place m n (subst (λ (p : ℕ). slice_get nodes p ≡ Some m) same there)
          at in (
            λ has. absurd (weak.none (number_at nodes place)
                (subst (λ (p : ℕ). number ≤ number_at nodes p) same (omega arith)) has),
            λ node. absurd (not_weak_node m other (subst IsWeakNode (sym one) node)),
          )
    ];
    none = λ k le has. weak.none k (before k le (is_future m) refl) has;
  }
    where
      before : (k : ℕ) → number_at nodes (i + 1) ≤ k → (b : Bool) → is_future m ≡ b → number ≤ k
      before k le true future = omega (arith, le, number_at-future nodes i m there future)
      before k le false not_future = omega (arith, le, number_at-other nodes i m there not_future)

  pub IsWeakTo-step : (new : ℕ) → new ≡ with_weak set number m → IsWeakTo nodes (i + 1) new
  IsWeakTo-step new is = subst (IsWeakTo nodes (i + 1)) (sym is) (go (is_weak m) refl)
    where
      go : (b : Bool) → is_weak m ≡ b
          → IsWeakTo nodes (i + 1) (if b then bit_or set (2 ^ number) else set)
      go true is = more is
      go false other = same_set other

pub IsWeakTo-end : (nodes : List Node) (i set : ℕ) → length nodes ≤ i → IsWeakTo nodes i set
    → IsWeakSet nodes set
IsWeakTo-end nodes i set past weak place n at future =
    weak.each place n (omega (arith, past, slice_get_within nodes place n at)) at future
