-- The minimal sets that a step makes have only future nodes of the node's own part of the formula.
use Rattle.std.proofs.Common.{◌≡◌, ℕ, ◌^◌, ◌<◌, Bool, true, not, ◌&&◌, ◌||◌, List, [], bit_and}
use Rattle.std.proofs.Common.{bit_or, get_or, inl, inr, refl, sym, ◌∙◌, ap, subst, arith}
use Rattle.std.specs.Prelude.{◌⊎◌, Some, slice_get, slice_index_or}
use Rattle.std.specs.Int.{bit_at}
use Rattle.std.specs.List.{Contains}
use Rattle.std.specs.Int.Bits.{and_self}
use Rattle.std.proofs.lemmas.Bool.{cases_lt, false≢true}
use Rattle.std.proofs.lemmas.Bool.Decides.{eqb_tells}
use Rattle.std.proofs.lemmas.Nat.{and_assoc}
use Rattle.std.proofs.lemmas.Nat.Bits.{bit_at_and, bit_at_or, bit_at-lt, bit_at-pow_other}
use Rattle.std.proofs.lemmas.Nat.Bits.{same_from_bits}
use Rattle.std.proofs.lemmas.List.Elements.{All-contains, Contains-get_or}
use Rattle.tcq_syntax.specs.declared.nodes.Node.{Node}
use Rattle.tcq_syntax.specs.declared.nodes.Node.TheVariants as node
use Rattle.tcq_syntax.specs.Formula.{Formula, True, False, Leaf, And, Or, Next, WeakNext, Prev}
use Rattle.tcq_syntax.specs.Formula.{WeakPrev, Until, Since, Eventually, Always, Once, Historically}
use Rattle.tcq_syntax.specs.Formula.{formula_of, formula_at, number_at, is_future, HasChildrenBelow}
use Rattle.tcq_syntax.specs.Formula.{IsTable}
use Rattle.tcq_syntax.specs.End.{Has, Inside, EachFuture, future_set}
use Rattle.tcq_syntax.specs.Laws.{granted_place}
use Rattle.tcq_syntax.proofs.Sets.{Has-bit, bit-Has, Has-or_left, Has-or_right, Has-inside}
use Rattle.tcq_syntax.proofs.Sets.{Inside-trans, Inside-and}
use Rattle.tcq_syntax.proofs.Tables.{formula_at-node}
use Rattle.antichains.specs.Sets.{is_inside, holds}
use Rattle.antichains.specs.Antichain.{IsMinimal, values_at}
use Rattle.antichains.proofs.Antichains.{from_inside, to_inside, is_inside-self, is_inside-through}
use Rattle.antichains.proofs.Antichains.{holding, holds-from_member, one_member, le-from_inside}
use Rattle.progression.specs.Step.{node_test, is_past, kept_formula, AllGranted, OwnIn, AllOwn}
use Rattle.progression.proofs.Exact.{or_cases, or_left, or_right, and_cases, and_both}
use Rattle.progression.proofs.Values.{Has-values_at}
use Rattle.progression.proofs.Parts.{EachFuture-kept}

Inside-from_bits : (m w : ℕ) → ((b : ℕ) → Has m b → Has w b) → Inside m w
Inside-from_bits m w each = same_from_bits (bit_and m w) m bit
  where
    bit : (i : ℕ) → bit_at (bit_and m w) i ≡ bit_at m i
    bit i = elim (cases_lt 0 (bit_at m i)) [
      | inl one ↦
          let is : bit_at m i ≡ 1 = omega (arith, bit_at-lt m i) in
          let other : bit_at w i ≡ 1 = Has-bit w i (each i (bit-Has m i is)) in
          omega (arith, bit_at_and m w i)
      | inr none ↦ omega (arith, bit_at_and m w i)
    ]

pub Inside-or_left : (a b : ℕ) → Inside a (bit_or a b)
Inside-or_left a b = Inside-from_bits a (bit_or a b) (λ i has. Has-or_left a b i has)

pub Inside-or_right : (a b : ℕ) → Inside b (bit_or a b)
Inside-or_right a b = Inside-from_bits b (bit_or a b) (λ i has. Has-or_right a b i has)

pub Has-or_cases : (a b i : ℕ) → Has (bit_or a b) i → Has a i ⊎ Has b i
Has-or_cases a b i has = elim (cases_lt 0 (bit_at a i)) [
  | inl one ↦ inl (bit-Has a i (omega (arith, bit_at-lt a i)))
  | inr none ↦
      inr (bit-Has b i (omega (arith, bit_at_or a b i, Has-bit (bit_or a b) i has, bit_at-lt b i)))
]

pub Has-pow_only : (k i : ℕ) → Has (2 ^ k) i → i ≡ k
Has-pow_only k i has = elim (eqb_tells i k) [
  | inl same ↦ same.1
  | inr other ↦ let one : bit_at (2 ^ k) i ≡ 1 = Has-bit (2 ^ k) i has in
      let none : bit_at (2 ^ k) i ≡ 0 = bit_at-pow_other k i other.1 in
      absurd (omega (arith, one, none))
]

-- what lies inside two sets lies inside what they share
Inside-both : (m v w : ℕ) → Inside m v → Inside m w → Inside m (bit_and v w)
Inside-both m v w first second = sym (and_assoc w m v) ∙ ap (λ (x : ℕ). bit_and x w) first ∙ second

is_inside-part : (m v w : ℕ) → is_inside m v ≡ true → Inside m w → is_inside m (bit_and v w) ≡ true
is_inside-part m v w inside own =
    to_inside m (bit_and v w) (Inside-both m v w (from_inside m v inside) own)

OwnIn-more : (small large : ℕ) (sets : List ℕ) → Inside small large → OwnIn small sets
    → OwnIn large sets
OwnIn-more small large sets more own k d within =
    Inside-trans (get_or sets k d) small large (own k d within) more

-- a antichain whose sets are in a set looks at no other part
holds-part : (sets : List ℕ) (own v : ℕ) → OwnIn own sets → holds sets v ≡ true
    → holds sets (bit_and v own) ≡ true
holds-part sets own v are h =
    let found = holding sets v h in
    holds-from_member sets found.0 (bit_and v own) found.1
    (is_inside-part found.0 v own found.2
    (All-contains (λ m. Inside m own) sets found.0 are found.1))

holds-within : (sets : List ℕ) (small own v : ℕ) → Inside small own → OwnIn small sets
    → holds sets v ≡ true → holds sets (bit_and v own) ≡ true
holds-within sets small own v more are h =
    holds-part sets own v (OwnIn-more small own sets more are) h

-- the value of the future node has only sets of its own
abbrev FutureOwn : List (List ℕ) → Formula → Type 0
FutureOwn values (Next k f) = OwnIn (future_set (Next k f)) (slice_index_or values k [])
FutureOwn values (WeakNext k f) = OwnIn (future_set (WeakNext k f)) (slice_index_or values k [])
FutureOwn values (Until k f g) = OwnIn (future_set (Until k f g)) (slice_index_or values k [])
FutureOwn values (Eventually k f) = OwnIn (future_set (Eventually k f)) (slice_index_or values k [])
FutureOwn values (Always k f) = OwnIn (future_set (Always k f)) (slice_index_or values k [])
FutureOwn values _ = Unit {0}

module _ (values : List (List ℕ)) (b : ℕ) where
  abbrev In : ℕ → Type 0
  In own = OwnIn own (slice_index_or values b [])

  two : (f g : Formula) → (Has (future_set f) b → In (future_set f))
      → (Has (future_set g) b → In (future_set g)) → Has (bit_or (future_set f) (future_set g)) b
      → In (bit_or (future_set f) (future_set g))
  two f g in_f in_g has = elim (Has-or_cases (future_set f) (future_set g) b has) [
    | inl x ↦ OwnIn-more (future_set f) (bit_or (future_set f) (future_set g)) _
        (Inside-or_left (future_set f) (future_set g)) (in_f x)
    | inr y ↦ OwnIn-more (future_set g) (bit_or (future_set f) (future_set g)) _
        (Inside-or_right (future_set f) (future_set g)) (in_g y)
  ]

  numbered : (k parts : ℕ) → OwnIn (bit_or (2 ^ k) parts) (slice_index_or values k [])
      → (Has parts b → In parts) → Has (bit_or (2 ^ k) parts) b → In (bit_or (2 ^ k) parts)
  numbered k parts here deeper has = elim (Has-or_cases (2 ^ k) parts b has) [
    | inl x ↦ subst (λ (i : ℕ). OwnIn (bit_or (2 ^ k) parts) (slice_index_or values i []))
        (sym (Has-pow_only k b x)) here
    | inr y ↦ OwnIn-more parts (bit_or (2 ^ k) parts) _ (Inside-or_right (2 ^ k) parts) (deeper y)
  ]

  value_own : (f : Formula) → EachFuture (FutureOwn values) f → Has (future_set f) b
      → In (future_set f)
  value_own True each has = absurd (has refl)
  value_own False each has = absurd (has refl)
  value_own (Leaf q) each has = absurd (has refl)
  value_own (And f g) each has = two f g (value_own f each.0) (value_own g each.1) has
  value_own (Or f g) each has = two f g (value_own f each.0) (value_own g each.1) has
  value_own (Next k f) each has = numbered k (future_set f) each.0 (value_own f each.1) has
  value_own (WeakNext k f) each has = numbered k (future_set f) each.0 (value_own f each.1) has
  value_own (Prev f) each has = value_own f each has
  value_own (WeakPrev f) each has = value_own f each has
  value_own (Until k f g) each has =
      numbered k (bit_or (future_set f) (future_set g)) each.0
      (two f g (value_own f each.1) (value_own g each.2)) has
  value_own (Since f g) each has = two f g (value_own f each.0) (value_own g each.1) has
  value_own (Eventually k f) each has = numbered k (future_set f) each.0 (value_own f each.1) has
  value_own (Always k f) each has = numbered k (future_set f) each.0 (value_own f each.1) has
  value_own (Once f) each has = value_own f each has
  value_own (Historically f) each has = value_own f each has

-- an old antichain looks at its own part of what the values say
before-part : (values : List (List ℕ)) (f : Formula) (own : ℕ) (old : List ℕ) (v : ℕ)
    → EachFuture (FutureOwn values) f → Inside (future_set f) own → OwnIn (future_set f) old
    → holds old (values_at values v) ≡ true → holds old (values_at values (bit_and v own)) ≡ true
before-part values f own old v each more are h =
    holds-from_member old m (values_at values (bit_and v own)) found.1
    (to_inside m (values_at values (bit_and v own))
    (Inside-from_bits m (values_at values (bit_and v own)) bit))
  where
    found : (m : ℕ) × Contains old m × (is_inside m (values_at values v) ≡ true)
    found = holding old (values_at values v) h

    m : ℕ
    m = found.0

    bit : (b : ℕ) → Has m b → Has (values_at values (bit_and v own)) b
    bit b has =
        let part : Has (future_set f) b =
        Has-inside m (future_set f) (All-contains (λ (x : ℕ).
        Inside x (future_set f)) old m are found.1) b has in
        let said : holds (slice_index_or values b []) v ≡ true =
        (Has-values_at values v b).0
        (Has-inside m (values_at values v) (from_inside m (values_at values v) found.2) b
        has) in
        (Has-values_at values (bit_and v own) b).1
        (holds-within (slice_index_or values b []) (future_set f) own v more
        (value_own values b f each part) said)

-- a antichain of a test that looks at no other part has only sets of it
minimal_own : (test : ℕ → Bool) (own : ℕ) (new : List ℕ) → IsMinimal test new
    → ((v : ℕ) → v < 256 → test v ≡ true → test (bit_and v own) ≡ true) → OwnIn own new
minimal_own test own new minimal part k d within =
    let v : ℕ = get_or new k d in
    let small : v < 256 = minimal.antichain.in_range k d within in
    let there : Contains new v = Contains-get_or new k d within in
    let here : test v ≡ true =
    sym (minimal.same v small) ∙ holds-from_member new v v there (is_inside-self v) in
    let inside : is_inside (bit_and v own) v ≡ true =
    to_inside (bit_and v own) v (Inside-and v own) in
    let less : bit_and v own < 256 =
    omega (arith, small, le-from_inside (bit_and v own) v inside) in
    let found = holding new (bit_and v own)
    (minimal.same (bit_and v own) less ∙ part v small here) in
    let same : found.0 ≡ v =
    one_member new minimal.antichain found.0 v found.1 there
    (is_inside-through found.0 (bit_and v own) v found.2 inside) in
    let all : Inside v (bit_and v own) =
    from_inside v (bit_and v own) (subst (λ (x : ℕ). is_inside x (bit_and v own)
    ≡ true) same found.2) in
    sym (ap (λ (x : ℕ). bit_and x own) (and_self v)) ∙ and_assoc own v v ∙ all

or_map : (a b c d : Bool) → (a ≡ true → c ≡ true) → (b ≡ true → d ≡ true) → (a || b) ≡ true
    → (c || d) ≡ true
or_map a b c d first second h = elim (or_cases a b h) [
  | inl x ↦ or_left c d (first x)
  | inr y ↦
      or_right c d (second y)
]

and_map : (a b c d : Bool) → (a ≡ true → c ≡ true) → (b ≡ true → d ≡ true) → (a && b) ≡ true
    → (c && d) ≡ true
and_map a b c d first second h = let parts = and_cases a b h in
    and_both c d (first parts.0) (second parts.1)

module _ (first : Bool) (number place : ℕ) (child : ℕ → List ℕ) (formula : ℕ → Formula) (before : ℕ
    → Bool) (leaf : Bool) (parts : (c : ℕ) → c < place
    → OwnIn (future_set (formula c)) (child c)) (v : ℕ) where
  abbrev Set : ℕ → ℕ
  Set c = future_set (formula c)

  abbrev KeepsPart : ℕ → ℕ → Type 0
  KeepsPart kept own = Inside kept own → before v ≡ true → before (bit_and v own) ≡ true

  -- a child that is a part of the node's own
  child_part : (c own : ℕ) → c < place → Inside (Set c) own → holds (child c) v ≡ true
      → holds (child c) (bit_and v own) ≡ true
  child_part c own below more h = holds-within (child c) (Set c) own v more (parts c below) h

  own_bit : (sets : ℕ) → is_inside (2 ^ number) v ≡ true
      → is_inside (2 ^ number) (bit_and v (bit_or (2 ^ number) sets)) ≡ true
  own_bit sets h = is_inside-part (2 ^ number) v (bit_or (2 ^ number) sets) h
      (Inside-or_left (2 ^ number) sets)

  through : (a b c : ℕ) → Inside a c → Inside a (bit_or b c)
  through a b c inside = Inside-trans a c (bit_or b c) inside (Inside-or_right b c)

  node_part : (m : Node) → HasChildrenBelow place m
      → (is_past m ≡ true → KeepsPart (future_set (kept_formula formula m))
      (future_set (formula_of formula number m)))
      → node_test first number child before leaf m v ≡ true
      → node_test first number child before leaf m
      (bit_and v (future_set (formula_of formula number m))) ≡ true
  node_part node.True below kept h = refl
  node_part node.False below kept h = h
  node_part (node.Leaf q) below kept h = h
  node_part (node.And f g) below kept h =
      and_map _ _ _ _ (child_part f _ below.0 (Inside-or_left (Set f) (Set g)))
      (child_part g _ below.1 (Inside-or_right (Set f) (Set g))) h
  node_part (node.Or f g) below kept h =
      or_map _ _ _ _ (child_part f _ below.0 (Inside-or_left (Set f) (Set g)))
      (child_part g _ below.1 (Inside-or_right (Set f) (Set g))) h
  node_part (node.Next f) below kept h = own_bit (Set f) h
  node_part (node.WeakNext f) below kept h = own_bit (Set f) h
  node_part (node.Prev f) below kept h =
      and_map (not first) (before v) (not first) (before (bit_and v (Set f))) (λ x.
      x) (kept refl (and_self (Set f))) h
  node_part (node.WeakPrev f) below kept h =
      or_map first (before v) first (before (bit_and v (Set f))) (λ x.
      x) (kept refl (and_self (Set f))) h
  node_part (node.Until f g) below kept h =
      or_map _ _ _ _ (child_part g _ below.1
      (through (Set g) (2 ^ number) (bit_or (Set f) (Set g)) (Inside-or_right (Set f) (Set g))))
      (and_map _ _ _ _ (child_part f _ below.0
      (through (Set f) (2 ^ number) (bit_or (Set f) (Set g)) (Inside-or_left (Set f) (Set g))))
      (own_bit (bit_or (Set f) (Set g)))) h
  node_part (node.Since f g) below kept h =
      or_map _ _ _ _ (child_part g _ below.1 (Inside-or_right (Set f) (Set g)))
      (and_map _ _ _ _ (child_part f _ below.0 (Inside-or_left (Set f) (Set g)))
      (and_map (not first) _ (not first) _ (λ x.
      x) (kept refl (and_self (bit_or (Set f) (Set g)))))) h
  node_part (node.Eventually f) below kept h =
      or_map _ _ _ _ (child_part f _ below (Inside-or_right (2 ^ number) (Set f))) (own_bit (Set f))
      h
  node_part (node.Always f) below kept h =
      and_map _ _ _ _ (child_part f _ below (Inside-or_right (2 ^ number) (Set f)))
      (own_bit (Set f)) h
  node_part (node.Once f) below kept h =
      or_map _ _ _ _ (child_part f _ below (and_self (Set f)))
      (and_map (not first) _ (not first) _ (λ x. x) (kept refl (and_self (Set f)))) h
  node_part (node.Historically f) below kept h =
      and_map _ _ _ _ (child_part f _ below (and_self (Set f)))
      (or_map first _ first _ (λ x. x) (kept refl (and_self (Set f)))) h

module _ (nodes : List Node) (table : IsTable nodes) (count : ℕ) (antichain : ℕ
    → List ℕ) (values : List (List ℕ)) (own : AllOwn nodes count antichain)
    (granted : AllGranted [] nodes count antichain values) where
  abbrev Value : ℕ → List ℕ
  Value place = slice_index_or values (number_at nodes place) []

  -- the value of a future node before
  value_within : (place : ℕ) (m : Node) → place < count → slice_get nodes place ≡ Some m
      → is_future m ≡ true → (part : ℕ) → granted_place place m ≡ part → part < count
      → OwnIn (future_set (formula_at nodes part)) (Value place)
  value_within place m early at future part is within =
      subst (OwnIn (future_set (formula_at nodes part)))
      (sym (granted place m early at future ∙ ap antichain is)) (own part within)

  own_value : (place : ℕ) (m : Node) → place < count → slice_get nodes place ≡ Some m
      → is_future m ≡ true → granted_place place m ≡ place
      → OwnIn (future_set (formula_of (formula_at nodes) (number_at nodes place) m)) (Value place)
  own_value place m early at future is =
      subst (λ (f : Formula). OwnIn (future_set f) (Value place))
      (formula_at-node nodes table place m at)
      (value_within place m early at future place is early)

  future_own : (place : ℕ) (m : Node) → place < count → slice_get nodes place ≡ Some m
      → is_future m ≡ true
      → FutureOwn values (formula_of (formula_at nodes) (number_at nodes place) m)
  future_own place (node.Next f) early at future =
      let below : f < place = table place (node.Next f) at in
      OwnIn-more (future_set (formula_at nodes f))
      (bit_or (2 ^ number_at nodes place) (future_set (formula_at nodes f))) (Value place)
      (Inside-or_right (2 ^ number_at nodes place) (future_set (formula_at nodes f)))
      (value_within place (node.Next f) early at future f refl (omega arith))
  future_own place (node.WeakNext f) early at future =
      let below : f < place = table place (node.WeakNext f) at in
      OwnIn-more (future_set (formula_at nodes f))
      (bit_or (2 ^ number_at nodes place) (future_set (formula_at nodes f))) (Value place)
      (Inside-or_right (2 ^ number_at nodes place) (future_set (formula_at nodes f)))
      (value_within place (node.WeakNext f) early at future f refl (omega arith))
  future_own place (node.Until f g) early at future =
      own_value place (node.Until f g) early at future refl
  future_own place (node.Eventually f) early at future =
      own_value place (node.Eventually f) early at future refl
  future_own place (node.Always f) early at future =
      own_value place (node.Always f) early at future refl
  future_own place _ early at future = absurd (false≢true future)

  -- the new antichain has only sets of its own, if the old one has
  pub own_next : (m : Node) → slice_get nodes count ≡ Some m → (first leaf : Bool) (number : ℕ)
      → number ≡ number_at nodes count → (old : List ℕ)
      → (is_past m ≡ true → OwnIn (future_set (kept_formula (formula_at nodes) m)) old)
      → (new : List ℕ)
      → IsMinimal (node_test first number antichain (λ v. holds old (values_at values v)) leaf m)
      new → OwnIn (future_set (formula_at nodes count)) new
  own_next m at first leaf number number_is old kept new minimal =
      subst (λ (f : Formula). OwnIn (future_set f) new)
      (sym (formula_at-node nodes table count m at))
      (minimal_own (node_test first (number_at nodes count) antichain (λ v.
      holds old (values_at values v)) leaf m)
      (future_set (formula_of (formula_at nodes) (number_at nodes count) m)) new
      (subst (λ (k : ℕ). IsMinimal (node_test first k antichain (λ v.
      holds old (values_at values v)) leaf m) new) number_is minimal)
      (λ v small h. node_part first (number_at nodes count) count antichain (formula_at nodes) (λ w.
      holds old (values_at values w)) leaf own v m (table count m at)
      (λ past more. before-part values (kept_formula (formula_at nodes) m)
      (future_set (formula_of (formula_at nodes) (number_at nodes count) m)) old v
      (EachFuture-kept (FutureOwn values) nodes table count future_own m (table count m at))
      more (kept past)) h))
