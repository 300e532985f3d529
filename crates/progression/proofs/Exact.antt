-- A node's test says exactly whether its formula holds at the last position.
use Rattle.std.proofs.Common.{◌≡◌, ℕ, ◌+◌, ◌-◌, ◌*◌, ◌^◌, ◌<◌, ◌≤◌, Bool, true, false, not, ◌&&◌}
use Rattle.std.proofs.Common.{◌||◌, List, length, bit_and, inl, inr, refl, sym, ◌∙◌, ap, subst}
use Rattle.std.proofs.Common.{arith, eq-eqb}
use Rattle.std.specs.Prelude.{◌↔◌, ◌⊎◌}
use Rattle.std.specs.Int.{bit_at}
use Rattle.std.proofs.lemmas.Bool.{cases_lt}
use Rattle.std.proofs.lemmas.Nat.{and_comm, pow_pos}
use Rattle.std.proofs.lemmas.Nat.Bits.{and_pow, bit_at-lt}
use Rattle.dl_syntax.specs.declared.names.IndId.{IndId}
use Rattle.dl_syntax.specs.declared.ontology.Inclusion.{Inclusion}
use Rattle.tcq_syntax.specs.declared.nodes.Node.{Node}
use Rattle.tcq_syntax.specs.declared.nodes.Node.TheVariants as node
use Rattle.tcq_syntax.specs.Formula.{Formula, Prev, WeakPrev, Until, Since, Eventually, Always}
use Rattle.tcq_syntax.specs.Formula.{Once, Historically, formula_of, HasChildrenBelow}
use Rattle.tcq_syntax.specs.Histories.{History}
use Rattle.tcq_syntax.specs.End.{EndHolds, Has}
use Rattle.antichains.specs.Sets.{is_inside, holds}
use Rattle.progression.specs.Step.{node_test, is_past, kept_formula, LeafIs}

pub true-false : true ≡ false → ⊥
true-false h = cc

pub or_cases : (a b : Bool) → (a || b) ≡ true → (a ≡ true) ⊎ (b ≡ true)
or_cases true b h = inl refl
or_cases false b h = inr h

pub or_left : (a b : Bool) → a ≡ true → (a || b) ≡ true
or_left a b h = ap (λ x. x || b) h

pub or_right : (a b : Bool) → b ≡ true → (a || b) ≡ true
or_right true b h = refl
or_right false b h = h

pub and_cases : (a b : Bool) → (a && b) ≡ true → (a ≡ true) × (b ≡ true)
and_cases true b h = (refl, h)
and_cases false b h = absurd (true-false (sym h))

pub and_both : (a b : Bool) → a ≡ true → b ≡ true → (a && b) ≡ true
and_both a b h k = ap (λ x. x && b) h ∙ k

not_true : (a : Bool) → not a ≡ true → a ≡ false
not_true true h = absurd (true-false (sym h))
not_true false h = refl

not_false : (a : Bool) → (a ≡ true → ⊥) → not a ≡ true
not_false true h = absurd (h refl)
not_false false h = refl

-- a set has a node exactly where the node's own set lies inside
has_node : (number v : ℕ) → (is_inside (2 ^ number) v ≡ true) ↔ Has v number
has_node number v = (to, from)
  where
    at : bit_and (2 ^ number) v ≡ bit_at v number * 2 ^ number
    at = and_comm (2 ^ number) v ∙ and_pow v number

    to : is_inside (2 ^ number) v ≡ true → Has v number
    to h none = let same : bit_and (2 ^ number) v ≡ 2 ^ number = grind arith in
        let zeros : bit_and (2 ^ number) v ≡ 0 = and_comm (2 ^ number) v ∙ none in
        let some : 0 < 2 ^ number = pow_pos number in omega (arith, some, same, zeros)

    from : Has v number → is_inside (2 ^ number) v ≡ true
    from has = eq-eqb (bit_and (2 ^ number) v) (2 ^ number)
        (go (bit_at v number) (bit_at-lt v number) at)
      where
        go : (b : ℕ) → b < 2 → bit_and (2 ^ number) v ≡ b * 2 ^ number
            → bit_and (2 ^ number) v ≡ 2 ^ number
        go b small e = elim (cases_lt 0 b) [
          | inl one ↦ let is : b ≡ 1 = omega arith in e ∙ ap (λ x. x * 2 ^ number) is ∙ omega arith
          | inr zero ↦ let is : b ≡ 0 = omega arith in
              absurd (has (and_comm v (2 ^ number) ∙ e ∙ ap (λ x. x * 2 ^ number) is ∙ omega arith))
        ]

module _ (inclusions : List Inclusion) (history : History) (row : List IndId) (v n : ℕ)
    (last : length history.snapshots ≡ n + 1) where
  abbrev At : Formula → ℕ → Type 0
  At f i = EndHolds inclusions history v row f i

  here : (f : Formula) (l : ℕ) → n ≤ l → l < length history.snapshots → At f n → At f l
  here f l low high h = let same : n ≡ l = omega (arith, last) in subst (At f) same h

  positive : (first : Bool) → (first ≡ true) ↔ (n ≡ 0) → first ≡ false → 0 < n
  positive first is_first h = elim (cases_lt 0 n) [
    | inl more ↦ more
    | inr none ↦ let is : n ≡ 0 = omega arith in absurd (true-false (sym (is_first.1 is) ∙ h))
  ]

  not_first : (first : Bool) → (first ≡ true) ↔ (n ≡ 0) → 0 < n → not first ≡ true
  not_first first is_first later = not_false first (λ t. let is : n ≡ 0 = is_first.0 t in
      omega (arith, is, later))

  -- where it is the first position, or not
  by_first : (first : Bool) → (first ≡ true) ⊎ (first ≡ false)
  by_first true = inl refl
  by_first false = inr refl

  exact_until : (f g : Formula) (k : ℕ) (a b c : Bool) → (a ≡ true) ↔ At f n → (b ≡ true) ↔ At g n
      → (c ≡ true) ↔ Has v k → ((b || (a && c)) ≡ true) ↔ At (Until k f g) n
  exact_until f g k a b c at_f at_g granted = (to, from)
    where
      to : (b || (a && c)) ≡ true → At (Until k f g) n
      to h = elim (or_cases b (a && c) h) [
        | inl x ↦ inl (
          n,
          omega arith,
          omega (arith, last),
          at_g.0 x,
          λ l low high.
              absurd (omega (arith, low, high)),
        )
        | inr y ↦ let parts = and_cases a c y in
            inr (λ l low high. here f l low high (at_f.0 parts.0), granted.0 parts.1)
      ]

      from : At (Until k f g) n → (b || (a && c)) ≡ true
      from (inl h) = let same : h.0 ≡ n = omega (arith, last, h.1, h.2) in
          or_left b (a && c) (at_g.1 (subst (At g) same h.3))
      from (inr h) = or_right b (a && c)
          (and_both a c (at_f.1 (h.0 n (omega arith) (omega (arith, last)))) (granted.1 h.1))

  exact_since : (f g : Formula) (first a b c : Bool) → (first ≡ true) ↔ (n ≡ 0)
      → (a ≡ true) ↔ At f n → (b ≡ true) ↔ At g n → (0 < n → (c ≡ true) ↔ At (Since f g) (n - 1))
      → ((b || (a && (not first && c))) ≡ true) ↔ At (Since f g) n
  exact_since f g first a b c is_first at_f at_g before = (to, from)
    where
      to : (b || (a && (not first && c))) ≡ true → At (Since f g) n
      to h = elim (or_cases b (a && (not first && c)) h) [
        | inl x ↦ (n, omega arith, at_g.0 x, λ l low high. absurd (omega (arith, low, high)))
        | inr y ↦
            let parts = and_cases a (not first && c) y in
            let kept = and_cases (not first) c parts.1 in
            let later : 0 < n = positive first is_first (not_true first kept.0) in
            let old = (before later).0 kept.1 in (
              old.0,
              omega (arith, old.1),
              old.2,
              λ l low high. elim (cases_lt l n) [
                | inl early ↦ old.3 l low (omega arith)
                | inr end ↦ here f l end (omega (arith, last)) (at_f.0 parts.0)
              ],
            )
      ]

      from : At (Since f g) n → (b || (a && (not first && c))) ≡ true
      from h = elim (cases_lt h.0 n) [
        | inl early ↦
            let later : 0 < n = omega arith in
            or_right b (a && (not first && c))
            (and_both a (not first && c) (at_f.1 (h.3 n early (omega arith)))
            (and_both (not first) c (not_first first is_first later)
            ((before later).1 (h.0, omega arith, h.2, λ l low high. h.3 l low (omega arith)))))
        | inr end ↦ let same : h.0 ≡ n = omega (arith, h.1) in
            or_left b (a && (not first && c)) (at_g.1 (subst (At g) same h.2))
      ]

  exact_once : (f : Formula) (first a c : Bool) → (first ≡ true) ↔ (n ≡ 0) → (a ≡ true) ↔ At f n
      → (0 < n → (c ≡ true) ↔ At (Once f) (n - 1))
      → ((a || (not first && c)) ≡ true) ↔ At (Once f) n
  exact_once f first a c is_first at_f before = (to, from)
    where
      to : (a || (not first && c)) ≡ true → At (Once f) n
      to h = elim (or_cases a (not first && c) h) [
        | inl x ↦ (n, omega arith, at_f.0 x)
        | inr y ↦
            let kept = and_cases (not first) c y in
            let old = (before (positive first is_first (not_true first kept.0))).0 kept.1 in
            (old.0, omega (arith, old.1), old.2)
      ]

      from : At (Once f) n → (a || (not first && c)) ≡ true
      from h = elim (cases_lt h.0 n) [
        | inl early ↦
            let later : 0 < n = omega arith in
            or_right a (not first && c)
            (and_both (not first) c (not_first first is_first later)
            ((before later).1 (h.0, omega arith, h.2)))
        | inr end ↦ let same : h.0 ≡ n = omega (arith, h.1) in
            or_left a (not first && c) (at_f.1 (subst (At f) same h.2))
      ]

  exact_historically : (f : Formula) (first a c : Bool) → (first ≡ true) ↔ (n ≡ 0)
      → (a ≡ true) ↔ At f n → (0 < n → (c ≡ true) ↔ At (Historically f) (n - 1))
      → ((a && (first || c)) ≡ true) ↔ At (Historically f) n
  exact_historically f first a c is_first at_f before = (to, from)
    where
      to : (a && (first || c)) ≡ true → At (Historically f) n
      to h l high =
          let parts = and_cases a (first || c) h in
          elim (cases_lt l n) [
            | inl early ↦
                let later : 0 < n = omega arith in
                elim (or_cases first c parts.1) [
                  | inl t ↦ let is : n ≡ 0 = is_first.0 t in absurd (omega (arith, is, later))
                  | inr k ↦ (before later).0 k l (omega arith)
                ]
            | inr end ↦ here f l end (omega (arith, last)) (at_f.0 parts.0)
          ]

      from : At (Historically f) n → (a && (first || c)) ≡ true
      from h = and_both a (first || c) (at_f.1 (h n (omega arith))) (elim (by_first first) [
        | inl t ↦ or_left first c t
        | inr t ↦ or_right first c ((before (positive first is_first t)).1 (λ l high.
            h l (omega arith)))
      ])

  exact_prev : (f : Formula) (first c : Bool) → (first ≡ true) ↔ (n ≡ 0)
      → (0 < n → (c ≡ true) ↔ At f (n - 1)) → ((not first && c) ≡ true) ↔ At (Prev f) n
  exact_prev f first c is_first before = (to, from)
    where
      to : (not first && c) ≡ true → At (Prev f) n
      to h = let kept = and_cases (not first) c h in let later : 0 < n =
          positive first is_first (not_true first kept.0) in (later, (before later).0 kept.1)

      from : At (Prev f) n → (not first && c) ≡ true
      from h = and_both (not first) c (not_first first is_first h.0) ((before h.0).1 h.1)

  exact_weak_prev : (f : Formula) (first c : Bool) → (first ≡ true) ↔ (n ≡ 0)
      → (0 < n → (c ≡ true) ↔ At f (n - 1)) → ((first || c) ≡ true) ↔ At (WeakPrev f) n
  exact_weak_prev f first c is_first before = (to, from)
    where
      to : (first || c) ≡ true → At (WeakPrev f) n
      to h = elim (by_first first) [
        | inl t ↦ inl (is_first.0 t)
        | inr t ↦ inr ((before (positive first is_first t)).0 (elim (or_cases first c h) [
          | inl s ↦
              absurd (true-false (sym s ∙ t))
          | inr k ↦ k
        ]))
      ]

      from : At (WeakPrev f) n → (first || c) ≡ true
      from (inl h) = or_left first c (is_first.1 h)
      from (inr h) = elim (by_first first) [
        | inl t ↦ or_left first c t
        | inr t ↦ or_right first c ((before (positive first is_first t)).1 h)
      ]

  exact_eventually : (f : Formula) (k : ℕ) (a c : Bool) → (a ≡ true) ↔ At f n → (c ≡ true) ↔ Has v k
      → ((a || c) ≡ true) ↔ At (Eventually k f) n
  exact_eventually f k a c at_f granted = (to, from)
    where
      to : (a || c) ≡ true → At (Eventually k f) n
      to h = elim (or_cases a c h) [
        | inl x ↦ inl (n, omega arith, omega (arith, last), at_f.0 x)
        | inr y ↦ inr (granted.0 y)
      ]

      from : At (Eventually k f) n → (a || c) ≡ true
      from (inl h) = let same : h.0 ≡ n = omega (arith, last, h.1, h.2) in
          or_left a c (at_f.1 (subst (At f) same h.3))
      from (inr h) = or_right a c (granted.1 h)

  exact_always : (f : Formula) (k : ℕ) (a c : Bool) → (a ≡ true) ↔ At f n → (c ≡ true) ↔ Has v k
      → ((a && c) ≡ true) ↔ At (Always k f) n
  exact_always f k a c at_f granted = (to, from)
    where
      to : (a && c) ≡ true → At (Always k f) n
      to h = let parts = and_cases a c h in
          (λ l low high. here f l low high (at_f.0 parts.0), granted.0 parts.1)

      from : At (Always k f) n → (a && c) ≡ true
      from h = and_both a c (at_f.1 (h.0 n (omega arith) (omega (arith, last)))) (granted.1 h.1)

  -- next, either weak or not
  exact_next : (f : Formula) (k : ℕ) (c : Bool) → (c ≡ true) ↔ Has v k
      → (c ≡ true) ↔ (((n + 1 < length history.snapshots) × At f (n + 1))
      ⊎ ((n + 1 ≡ length history.snapshots) × Has v k))
  exact_next f k c granted = (to, from)
    where
      to : c ≡ true → ((n + 1 < length history.snapshots) × At f (n + 1))
          ⊎ ((n + 1 ≡ length history.snapshots) × Has v k)
      to h = inr (sym last, granted.0 h)

      from : ((n + 1 < length history.snapshots) × At f (n + 1))
          ⊎ ((n + 1 ≡ length history.snapshots) × Has v k) → c ≡ true
      from (inl h) = absurd (omega (arith, last, h.0))
      from (inr h) = granted.1 h.1

  pub node_exact : (first : Bool) (number place : ℕ) (child : ℕ → List ℕ) (formula : ℕ
      → Formula) (before : ℕ → Bool) (leaf : Bool) → (first ≡ true) ↔ (n ≡ 0) →
      ((c : ℕ) → c < place → (holds (child c) v ≡ true) ↔ At (formula c) n) → (m : Node)
      → HasChildrenBelow place m →
      (is_past m ≡ true → 0 < n → (before v ≡ true) ↔ At (kept_formula formula m) (n - 1))
      → LeafIs inclusions history row n leaf m →
      (node_test first number child before leaf m v ≡ true) ↔ At (formula_of formula number m) n
  node_exact first number place child formula before leaf is_first parts node.True below kept
      answer = (λ h. tt, λ h. refl)
  node_exact first number place child formula before leaf is_first parts node.False below kept
      answer = (λ h. true-false (sym h), λ h. absurd h)
  node_exact first number place child formula before leaf is_first parts (node.Leaf q) below kept
      answer = answer
  node_exact first number place child formula before leaf is_first parts (node.And f g) below kept
      answer = (
        λ h. let both = and_cases (holds (child f) v) (holds (child g) v) h in
            ((parts f below.0).0 both.0, (parts g below.1).0 both.1),
        λ h. and_both (holds (child f) v) (holds (child g) v) ((parts f below.0).1 h.0)
            ((parts g below.1).1 h.1),
      )
  node_exact first number place child formula before leaf is_first parts (node.Or f g) below kept
      answer = (to, from)
    where
      to : (holds (child f) v || holds (child g) v) ≡ true → At (formula f) n ⊎ At (formula g) n
      to h = elim (or_cases (holds (child f) v) (holds (child g) v) h) [
        | inl x ↦
            inl ((parts f below.0).0 x)
        | inr y ↦ inr ((parts g below.1).0 y)
      ]

      from : At (formula f) n ⊎ At (formula g) n → (holds (child f) v || holds (child g) v) ≡ true
      from (inl h) = or_left (holds (child f) v) (holds (child g) v) ((parts f below.0).1 h)
      from (inr h) = or_right (holds (child f) v) (holds (child g) v) ((parts g below.1).1 h)
  node_exact first number place child formula before leaf is_first parts (node.Next f) below kept
      answer = exact_next (formula f) number (is_inside (2 ^ number) v) (has_node number v)
  node_exact first number place child formula before leaf is_first parts (node.WeakNext f) below
      kept answer = exact_next (formula f) number (is_inside (2 ^ number) v) (has_node number v)
  node_exact first number place child formula before leaf is_first parts (node.Prev f) below kept
      answer = exact_prev (formula f) first (before v) is_first (kept refl)
  node_exact first number place child formula before leaf is_first parts (node.WeakPrev f) below
      kept answer = exact_weak_prev (formula f) first (before v) is_first (kept refl)
  node_exact first number place child formula before leaf is_first parts (node.Until f g) below kept
      answer =
      exact_until (formula f) (formula g) number (holds (child f) v) (holds (child g) v)
      (is_inside (2 ^ number) v) (parts f below.0) (parts g below.1) (has_node number v)
  node_exact first number place child formula before leaf is_first parts (node.Since f g) below kept
      answer =
      exact_since (formula f) (formula g) first (holds (child f) v) (holds (child g) v) (before v)
      is_first (parts f below.0) (parts g below.1) (kept refl)
  node_exact first number place child formula before leaf is_first parts (node.Eventually f) below
      kept answer =
      exact_eventually (formula f) number (holds (child f) v) (is_inside (2 ^ number) v)
      (parts f below) (has_node number v)
  node_exact first number place child formula before leaf is_first parts (node.Always f) below kept
      answer =
      exact_always (formula f) number (holds (child f) v) (is_inside (2 ^ number) v) (parts f below)
      (has_node number v)
  node_exact first number place child formula before leaf is_first parts (node.Once f) below kept
      answer =
      exact_once (formula f) first (holds (child f) v) (before v) is_first (parts f below)
      (kept refl)
  node_exact first number place child formula before leaf is_first parts (node.Historically f) below
      kept answer =
      exact_historically (formula f) first (holds (child f) v) (before v) is_first (parts f below)
      (kept refl)
