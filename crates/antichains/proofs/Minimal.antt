-- A antichain that holds where a function does is the list of its minimal sets.
use Rattle.std.proofs.Common.{◌≡◌, ◌⊎◌, inl, inr, ℕ, zero, suc, ◌+◌, ◌<◌, Bool, true, false, ◌||◌}
use Rattle.std.proofs.Common.{List, [], ◌∷◌, refl, sym, ◌∙◌, ap, subst, arith, get_or, length}
use Rattle.std.specs.Prelude.{AllPairs, Contains}
use Rattle.std.proofs.lemmas.List.Elements.{All-contains, Contains-get_or, All-nil}
use Rattle.std.proofs.lemmas.Bool.{cases_lt}
use Rattle.antichains.specs.Sets.{is_inside, holds}
use Rattle.antichains.specs.Antichain.{IsMinimal, IsMonotone}
use Rattle.antichains.specs.Minimal.{IsMinimalSet, AreMinimalSets}
use Rattle.antichains.specs.Laws.{MinimalSets}
use Rattle.antichains.proofs.Antichains.{is_inside-self, is_inside-through, is_inside-both}
use Rattle.antichains.proofs.Antichains.{le-from_inside, holding, holds-from_member, one_member}
use Rattle.antichains.proofs.Antichains.{true_or_false, true-false}

module _ (f : ℕ → Bool) (sets : List ℕ) (minimal : IsMinimal f sets) where
  in_range : (v : ℕ) → Contains sets v → v < 256
  in_range v there = All-contains (λ m. m < 256) sets v minimal.antichain.in_range there

  to_minimal : (v : ℕ) → Contains sets v → IsMinimalSet f v
  to_minimal v there = record {
    in_range = in_range v there;
    there = sym (minimal.same v (in_range v there)) ∙ holds-from_member sets v v there
        (is_inside-self v);
    least = λ u inside at.
        let below : u < 256 = omega (arith, in_range v there, le-from_inside u v inside) in
        let found = holding sets u (minimal.same u below ∙ at) in
        let same : found.0 ≡ v =
        one_member sets minimal.antichain found.0 v found.1 there
        (is_inside-through found.0 u v found.2 inside) in
        is_inside-both u v inside (ap (λ m. is_inside m u) (sym same) ∙ found.2);
  }

  from_minimal : (v : ℕ) → IsMinimalSet f v → Contains sets v
  from_minimal v is =
      let found = holding sets v (minimal.same v is.in_range ∙ is.there) in
      let at : f found.0 ≡ true =
      sym (minimal.same found.0 (in_range found.0 found.1)) ∙ holds-from_member sets found.0
      found.0 found.1 (is_inside-self found.0) in
      subst (λ m. Contains sets m) (is.least found.0 found.2 at) found.1

  pub minimal_sets_of : AreMinimalSets f sets
  minimal_sets_of = record {
    rising = minimal.antichain.rising;
    member =
        λ v. (to_minimal v, from_minimal v);
  }

module _ (f : ℕ → Bool) (monotone : IsMonotone f) (sets : List ℕ) (minimal : AreMinimalSets f sets)
  where
    member_at : (k d : ℕ) → k < length sets → IsMinimalSet f (get_or sets k d)
    member_at k d within = (minimal.member (get_or sets k d)).0 (Contains-get_or sets k d within)

    apart : AllPairs (λ a b. is_inside a b ≡ false) sets
    apart i j d before within = go (true_or_false (is_inside (get_or sets i d) (get_or sets j d)))
      where
        go : (is_inside (get_or sets i d) (get_or sets j d) ≡ true)
            ⊎ (is_inside (get_or sets i d) (get_or sets j d) ≡ false)
            → is_inside (get_or sets i d) (get_or sets j d) ≡ false
        go (inr same) = same
        go (inl same) =
            let first = member_at i d (omega (arith, before, within)) in
            let one : get_or sets i d ≡ get_or sets j d =
            (member_at j d within).least (get_or sets i d) same first.there in
            absurd (omega (arith, one, minimal.rising i j d before within))

    -- where no member lies inside v, the function holds at no set inside v
    nowhere : (v : ℕ) → v < 256 → holds sets v ≡ false → (bound u : ℕ) → u < bound
        → is_inside u v ≡ true → f u ≡ true → ⊥
    nowhere v small none zero u within inside at = omega (arith, within)
    nowhere v small none (suc bound) u within inside at =
        true-false (sym (holds-from_member sets u v
        ((minimal.member u).1 (least (λ x less below at_x.
        nowhere v small none bound x (omega (arith, within, less))
        (is_inside-through x u v below inside) at_x))) inside) ∙ none)
      where
        least : ((x : ℕ) → x < u → is_inside x u ≡ true → f x ≡ true → ⊥) → IsMinimalSet f u
        least lower = record {
          in_range = omega (arith, small, le-from_inside u v inside);
          there = at;
          least = λ x below at_x. elim (cases_lt x u) [
            | inl less ↦ absurd (lower x less below at_x)
            | inr more ↦ omega (arith, more, le-from_inside x u below)
          ];
        }

    same : (v : ℕ) → v < 256 → holds sets v ≡ f v
    same v small = go (true_or_false (holds sets v)) (true_or_false (f v))
      where
        go : (holds sets v ≡ true) ⊎ (holds sets v ≡ false) → (f v ≡ true) ⊎ (f v ≡ false)
            → holds sets v ≡ f v
        go (inl h) (inl k) = h ∙ sym k
        go (inr h) (inr k) = h ∙ sym k
        go (inl h) (inr k) =
            let found = holding sets v h in
            absurd (true-false (sym (monotone found.0 v small found.2
            ((minimal.member found.0).0 found.1).there) ∙ k))
        go (inr h) (inl k) = absurd (nowhere v small h (v + 1) v (omega arith) (is_inside-self v) k)

    pub antichain_of : IsMinimal f sets
    antichain_of = record {
      antichain = record {
        in_range = λ k d within. (member_at k d within).in_range;
        rising =
            minimal.rising;
        apart = apart;
      };
      same = same;
    }

pub minimal_sets : MinimalSets
minimal_sets f monotone sets = (minimal_sets_of f sets, antichain_of f monotone sets)

or_nothing : (b : Bool) → (b || false) ≡ b
or_nothing true = refl
or_nothing false = refl

-- the antichain of one set
pub IsMinimal-one : (m : ℕ) → m < 256 → IsMinimal (is_inside m) (m ∷ [])
IsMinimal-one m small = record {
  antichain = record {
    in_range = λ k d within. first k d within;
    rising = λ i j d before within. absurd (omega (arith, before, within));
    apart = λ i j d before within. absurd (omega (arith, before, within));
  };
  same = λ v l. or_nothing (is_inside m v);
}
  where
    first : (k d : ℕ) → k < length (m ∷ []) → get_or (m ∷ []) k d < 256
    first zero d within = small
    first (suc k) d within = absurd (omega (arith, within))

pub IsMinimal-none : IsMinimal (λ _. false) []
IsMinimal-none = record {
  antichain = record {
    in_range = All-nil (λ m. m < 256);
    rising = λ i j d before within. absurd (omega (arith, before, within));
    apart = λ i j d before within. absurd (omega (arith, before, within));
  };
  same = λ v l. refl;
}
