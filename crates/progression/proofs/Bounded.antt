-- A formula looks at its own future nodes alone, so its minimal sets have no others.
use Rattle.std.proofs.Common.{◌≡◌, ℕ, ◌+◌, ◌-◌, ◌*◌, ◌%◌, ◌^◌, ◌<◌, ◌≤◌, Bool, true, false, List}
use Rattle.std.proofs.Common.{length, get_or, bit_and, inl, inr, refl, sym, ◌∙◌, ap, subst, arith}
use Rattle.std.specs.Prelude.{◌↔◌}
use Rattle.std.specs.List.{Contains, AllPairs, All}
use Rattle.std.specs.Int.Bits.{and_self}
use Rattle.std.proofs.lemmas.Nat.{and_assoc, and_comm, and_mask, pow_pos}
use Rattle.std.proofs.lemmas.Nat.Bits.{and_pow, bit_at_ones}
use Rattle.std.proofs.lemmas.List.Elements.{All-contains, Contains-get_or}
use Rattle.std.proofs.Math.Pow.{pow_mono}
use Rattle.std.proofs.Math.Nat.{mod-lt}
use Rattle.dl_syntax.specs.declared.names.IndId.{IndId}
use Rattle.dl_syntax.specs.declared.ontology.Inclusion.{Inclusion}
use Rattle.tcq_syntax.specs.Formula.{Formula, True, False, Leaf, And, Or, Next, WeakNext, Prev}
use Rattle.tcq_syntax.specs.Formula.{WeakPrev, Until, Since, Eventually, Always, Once, Historically}
use Rattle.tcq_syntax.specs.Histories.{History}
use Rattle.tcq_syntax.specs.End.{EndHolds, EachFuture, Has}
use Rattle.tcq_syntax.specs.declared.nodes.Node.{Node}
use Rattle.tcq_syntax.specs.Formula.{formula_at, IsTable}
use Rattle.tcq_syntax.specs.Time.{Holds}
use Rattle.tcq_syntax.specs.End.{Inside, IsMinimal}
use Rattle.tcq_syntax.specs.Laws.{IsWeakSet}
use Rattle.tcq_syntax.proofs.Monotony.{monotony}
use Rattle.tcq_syntax.proofs.MinimalSets.{minimal_sets}
use Rattle.tcq_syntax.proofs.NodeLaws.{node_end_law}
use Rattle.antichains.specs.Sets.{is_inside, holds}
use Rattle.antichains.proofs.Antichains.{from_inside, to_inside, is_inside-self, is_inside-through}
use Rattle.antichains.proofs.Antichains.{is_inside-both, le-from_inside, holding, holds-from_member}
use Rattle.antichains.proofs.Antichains.{one_member}
use Rattle.progression.specs.Step.{HasNumberBelow, Stands}

module _ (inclusions : List Inclusion) (history : History) (row : List IndId)
    (limit small large : ℕ) (more : (number : ℕ) → number < limit → Has small number
    → Has large number) where
  abbrev Small : Formula → ℕ → Type 0
  Small f i = EndHolds inclusions history small row f i

  abbrev Large : Formula → ℕ → Type 0
  Large f i = EndHolds inclusions history large row f i

  pub grows : (f : Formula) → EachFuture (HasNumberBelow limit) f → (i : ℕ) → Small f i → Large f i
  grows True w i h = h
  grows False w i h = h
  grows (Leaf q) w i h = h
  grows (And f g) w i h = (grows f w.0 i h.0, grows g w.1 i h.1)
  grows (Or f g) w i (inl h) = inl (grows f w.0 i h)
  grows (Or f g) w i (inr h) = inr (grows g w.1 i h)
  grows (Next k f) w i (inl h) = inl (h.0, grows f w.1 (i + 1) h.1)
  grows (Next k f) w i (inr h) = inr (h.0, more k w.0 h.1)
  grows (WeakNext k f) w i (inl h) = inl (h.0, grows f w.1 (i + 1) h.1)
  grows (WeakNext k f) w i (inr h) = inr (h.0, more k w.0 h.1)
  grows (Prev f) w i h = (h.0, grows f w (i - 1) h.1)
  grows (WeakPrev f) w i (inl h) = inl h
  grows (WeakPrev f) w i (inr h) = inr (grows f w (i - 1) h)
  grows (Until k f g) w i (inl h) =
      inl (h.0, h.1, h.2, grows g w.2 h.0 h.3, λ l low high. grows f w.1 l (h.4 l low high))
  grows (Until k f g) w i (inr h) =
      inr (λ l low high. grows f w.1 l (h.0 l low high), more k w.0 h.1)
  grows (Since f g) w i h = (
    h.0,
    h.1,
    grows g w.1 h.0 h.2,
    λ l low high.
        grows f w.0 l (h.3 l low high),
  )
  grows (Eventually k f) w i (inl h) = inl (h.0, h.1, h.2, grows f w.1 h.0 h.3)
  grows (Eventually k f) w i (inr h) = inr (more k w.0 h)
  grows (Always k f) w i h = (λ l low high. grows f w.1 l (h.0 l low high), more k w.0 h.1)
  grows (Once f) w i h = (h.0, h.1, grows f w h.0 h.2)
  grows (Historically f) w i h = λ l high. grows f w l (h l high)

-- the part of a set below the limit
pub Has-part : (limit v k : ℕ) → k < limit → Has v k → Has (v % 2 ^ limit) k
Has-part limit v k below has none =
    let mask : bit_and (2 ^ limit - 1) (2 ^ k) ≡ 2 ^ k =
    and_pow (2 ^ limit - 1) k ∙ ap (λ b. b * 2 ^ k) (bit_at_ones limit k below) ∙ omega arith in
    has (ap (bit_and v) (sym mask) ∙ sym (and_assoc (2 ^ k) v (2 ^ limit - 1)) ∙ ap (λ x.
    bit_and x (2 ^ k)) (and_mask v limit) ∙ none)

part_inside : (limit v : ℕ) → bit_and (v % 2 ^ limit) v ≡ v % 2 ^ limit
part_inside limit v =
    ap (λ x. bit_and x v) (sym (and_mask v limit)) ∙ and_comm (bit_and v (2 ^ limit - 1)) v ∙ sym
    (and_assoc (2 ^ limit - 1) v v) ∙ ap (λ x.
    bit_and x (2 ^ limit - 1)) (and_self v) ∙ and_mask v limit

part_below : (limit v : ℕ) → v % 2 ^ limit < 2 ^ limit
part_below limit v = mod-lt v (pow_pos limit)

module _ (inclusions : List Inclusion) (history : History) (row : List IndId) (f : Formula)
    (futures : ℕ) (few : futures ≤ 8) (named : EachFuture (HasNumberBelow futures) f)
    (sets : List ℕ) where
  abbrev Here : ℕ → Type 0
  Here v = EndHolds inclusions history v row f (length history.snapshots - 1)

  small_limit : (v : ℕ) → v < 2 ^ futures → v < 256
  small_limit v below = let up : 2 ^ futures ≤ 2 ^ 8 = pow_mono few in omega (arith, below, up)

  at_part : (v : ℕ) → Here v → Here (v % 2 ^ futures)
  at_part v h = grows inclusions history row futures v (v % 2 ^ futures) (λ k below has.
      Has-part futures v k below has) f named (length history.snapshots - 1) h

  -- a antichain that stands for the formula is its list of minimal sets
  pub minimal-from_stands : Stands inclusions history row f sets
      → IsMinimal inclusions history futures f row sets
  minimal-from_stands stands = record {
    rising = stands.antichain.rising;
    member =
        λ v. (to v, from v);
  }
    where
      in_range : (v : ℕ) → Contains sets v → v < 256
      in_range v there = All-contains (λ m. m < 256) sets v stands.antichain.in_range there

      -- where the formula holds under a set inside a member, it is the member
      whole : (v w : ℕ) → Contains sets v → is_inside w v ≡ true → Here w → is_inside v w ≡ true
      whole v w there inside h =
          let small : w < 256 = omega (arith, in_range v there, le-from_inside w v inside) in
          let found = holding sets w ((stands.same w small).1 h) in
          let same : found.0 ≡ v =
          one_member sets stands.antichain found.0 v found.1 there
          (is_inside-through found.0 w v found.2 inside) in
          subst (λ (m : ℕ). is_inside m w ≡ true) same found.2

      to : (v : ℕ) → Contains sets v → (v < 2 ^ futures) × Here v
          × ((w : ℕ) → Inside w v → Here w → w ≡ v)
      to v there =
          let holds_v : Here v =
          (stands.same v (in_range v there)).0
          (holds-from_member sets v v there (is_inside-self v)) in
          let part : is_inside v (v % 2 ^ futures) ≡ true =
          whole v (v % 2 ^ futures) there
          (to_inside (v % 2 ^ futures) v (part_inside futures v)) (at_part v holds_v) in (
            omega (arith, le-from_inside v (v % 2 ^ futures) part, part_below futures v),
            holds_v,
            λ w inside h. is_inside-both w v (to_inside w v inside)
                (whole v w there (to_inside w v inside) h),
          )

      from : (v : ℕ) → (v < 2 ^ futures) × Here v × ((w : ℕ) → Inside w v → Here w → w ≡ v)
          → Contains sets v
      from v (below, h, least) =
          let found = holding sets v ((stands.same v (small_limit v below)).1 h) in
          let at_found : Here found.0 =
          (stands.same found.0 (in_range found.0 found.1)).0
          (holds-from_member sets found.0 found.0 found.1 (is_inside-self found.0)) in
          subst (Contains sets) (least found.0 (from_inside found.0 v found.2) at_found) found.1

  -- the list of minimal sets is a antichain that stands for the formula
  pub stands-from_minimal : IsMinimal inclusions history futures f row sets
      → Stands inclusions history row f sets
  stands-from_minimal minimal = record {
    antichain =
        record { in_range = in_range; rising = minimal.rising; apart = apart };
    same =
        λ v small. (to v, from v);
  }
    where
      member_at : (k d : ℕ) → k < length sets → Contains sets (get_or sets k d)
      member_at k d within = Contains-get_or sets k d within

      in_range : All (λ m. m < 256) sets
      in_range k d within =
          small_limit (get_or sets k d)
          ((minimal.member (get_or sets k d)).0 (member_at k d within)).0

      apart : AllPairs (λ a b. is_inside a b ≡ false) sets
      apart i j d before within = go (is_inside (get_or sets i d) (get_or sets j d)) refl
        where
          go : (b : Bool) → is_inside (get_or sets i d) (get_or sets j d) ≡ b → b ≡ false
          go false same = refl
          go true same =
              let first = (minimal.member (get_or sets i d)).0
              (member_at i d (omega (arith, before, within))) in
              let second = (minimal.member (get_or sets j d)).0 (member_at j d within) in
              let one : get_or sets i d ≡ get_or sets j d =
              second.2 (get_or sets i d) (from_inside (get_or sets i d) (get_or sets j d) same)
              first.1 in
              absurd (omega (arith, one, minimal.rising i j d before within))

      to : (v : ℕ) → holds sets v ≡ true → Here v
      to v h = let found = holding sets v h in
          monotony inclusions history row found.0 v (from_inside found.0 v found.2) f
          (length history.snapshots - 1) ((minimal.member found.0).0 found.1).1

      from : (v : ℕ) → Here v → holds sets v ≡ true
      from v h =
          let found =
          (minimal_sets inclusions history futures f row sets minimal (v % 2 ^ futures)
          (part_below futures v)).0 (at_part v h) in
          holds-from_member sets found.0 v found.1
          (is_inside-through found.0 (v % 2 ^ futures) v
          (to_inside found.0 (v % 2 ^ futures) found.2)
          (to_inside (v % 2 ^ futures) v (part_inside futures v)))

-- the row is an answer exactly where the root's antichain holds of the weak nodes
pub answered : (inclusions : List Inclusion) (history : History) (row : List IndId)
    (nodes : List Node) (weak : ℕ) → IsTable nodes → IsWeakSet nodes weak → weak < 256
    → 0 < length history.snapshots → (place : ℕ) (sets : List ℕ)
    → Stands inclusions history row (formula_at nodes place) sets
    → (holds sets weak ≡ true) ↔ Holds inclusions history row (formula_at nodes place)
    (length history.snapshots - 1)
answered inclusions history row nodes weak table is_weak small some place sets stands =
    let ends = node_end_law inclusions history row nodes weak table is_weak place
    (length history.snapshots - 1) (omega (arith, some)) in
    (λ h. ends.1 ((stands.same weak small).0 h), λ h. (stands.same weak small).1 (ends.0 h))
