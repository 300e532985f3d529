-- Walks along the arrows of inclusions.
use Rattle.std.proofs.Common.{◌≡◌, ℕ, zero, suc, ◌*◌, ◌<◌, ◌≤◌, Bool, true, false, not, List, []}
use Rattle.std.proofs.Common.{◌∷◌, length, map, refl, sym, ap, subst, arith, inl, inr}
use Rattle.std.proofs.Common.{length-append}
use Rattle.std.specs.Prelude.{◌⊎◌}
use Rattle.std.specs.List.{Contains, flat_map}
use Rattle.std.specs.Cmp.{IsEquivalence}
use Rattle.std.proofs.lemmas.List.Elements.{Contains-append_left, Contains-append_right}
use Rattle.std.proofs.lemmas.List.Elements.{Contains-append_cases, All-contains}
use Rattle.std.proofs.lemmas.Map.Made.{length-le_from_is_member, IsDistinct-from_AllPairs}
use Rattle.std.proofs.lemmas.Map.Views.{list_any-from_Contains, Contains-from_any}
use Rattle.dl_syntax.specs.declared.ontology.Role.{Role}
use Rattle.dl_syntax.specs.declared.ontology.Basic.{Basic}
use Rattle.dl_syntax.specs.declared.ontology.Basic.TheVariants as basic
use Rattle.dl_syntax.specs.declared.ontology.Inclusion.{Inclusion}
use Rattle.dl_syntax.specs.declared.ontology.Inclusion.TheVariants as inclusion
use Rattle.dl_syntax.specs.Exact.{IsExact}
use Rattle.list_lemmas.proofs.Elements.{Contains-none, Contains-first, Contains-later}
use Rattle.list_lemmas.proofs.Elements.{Contains-cons_cases, Contains-single}
use Rattle.worklist.specs.Reach.{Walk, Reaches, ReachesMore}
use Rattle.saturate.specs.declared.graph.Arrow.{Arrow}
use Rattle.saturate.specs.declared.graph.Scope.{Scope}
use Rattle.saturate.specs.declared.graph.Scope.TheVariants as scope
use Rattle.saturate.specs.Derived.{inverse_of}
use Rattle.saturate.specs.Above.{arrow, role_arrows, arrows_of, all_arrows, Along, IsAboveRole}
use Rattle.saturate.specs.Above.{IsAbove}

module _ {X A : Type 0} (h : X → List A) where
  pub from_flat_map : (xs : List X) (a : A) → Contains (flat_map h xs) a
      → (x : X) × Contains xs x × Contains (h x) a
  from_flat_map [] a there = absurd (Contains-none a there)
  from_flat_map (x ∷ xs) a there = elim (Contains-append_cases (h x) (flat_map h xs) a there) [
    | inl here ↦ (x, Contains-first x xs, here)
    | inr later ↦ (let k = from_flat_map xs a later in (k.0, Contains-later x xs k.0 k.1, k.2))
  ]

  pub in_flat_map : (xs : List X) (x : X) (a : A) → Contains xs x → Contains (h x) a
      → Contains (flat_map h xs) a
  in_flat_map [] x a there of = absurd (Contains-none x there)
  in_flat_map (y ∷ ys) x a there of = elim (Contains-cons_cases y ys x there) [
    | inl same ↦ Contains-append_left (h y) (flat_map h ys) a
        (subst (λ (z : X). Contains (h z) a) (sym same) of)
    | inr later ↦ Contains-append_right (h y) (flat_map h ys) a (in_flat_map ys x a later of)
  ]

-- each inclusion has at most two arrows
few_arrows : (kind : Scope) (i : Inclusion) → length (arrows_of kind i) ≤ 2
few_arrows scope.Pairs (inclusion.Concepts b c) = omega arith
few_arrows scope.Pairs (inclusion.Roles r s) = omega arith
few_arrows scope.Pairs (inclusion.Qualified b r c) = omega arith
few_arrows scope.Elements (inclusion.Concepts b c) = omega arith
few_arrows scope.Elements (inclusion.Roles r s) = omega arith
few_arrows scope.Elements (inclusion.Qualified b r c) = omega arith

pub length-all_arrows : (kind : Scope) (is : List Inclusion)
    → length (all_arrows kind is) ≤ 2 * length is
length-all_arrows kind [] = omega arith
length-all_arrows kind (i ∷ is) =
    omega (
      arith,
      length-append (arrows_of kind i) (all_arrows kind is),
      few_arrows kind i,
      length-all_arrows kind is,
    )

module _ (step : Basic → Basic → Type 0) where
  -- what each step keeps
  pub along_walk : (P : Basic → Type 0) → ((y z : Basic) → step y z → P y → P z) → (x : Basic) → P x
      → (n : ℕ) (y : Basic) → Walk step x n y → P y
  along_walk P next x holds zero y same = subst P same holds
  along_walk P next x holds (suc n) y (z, walk, taken) =
      next z y taken (along_walk P next x holds n z walk)

  pub one_more : (x y z : Basic) → Reaches step x y → step y z → Reaches step x z
  one_more x y z (n, walk) taken = (suc n, (y, walk, taken))

  pub here : (x : Basic) → Reaches step x x
  here x = (zero, refl)

  -- where no step leaves, nothing else is reached
  pub only_itself : (x : Basic) → ((y : Basic) → step x y → ⊥) → (n : ℕ) (y : Basic)
      → Walk step x n y → x ≡ y
  only_itself x none zero y same = same
  only_itself x none (suc n) y (z, walk, taken) =
      absurd (none y (subst (λ (w : Basic). step w y) (sym (only_itself x none n z walk)) taken))

Contains-map : {X Y : Type 0} (h : X → Y) (xs : List X) (x : X) → Contains xs x
    → Contains (map h xs) (h x)
Contains-map h [] x there = absurd (Contains-none x there)
Contains-map {X} {Y} h (y ∷ ys) x there = elim (Contains-cons_cases y ys x there) [
  | inl same ↦ subst (Contains (h y ∷ map h ys)) (ap h same) (Contains-first (h y) (map h ys))
  | inr later ↦ Contains-later (h y) (map h ys) (h x) (Contains-map h ys x later)
]

length_mapped : {X Y : Type 0} (h : X → Y) (xs : List X) → length (map h xs) ≡ length xs
length_mapped h [] = refl
length_mapped h (x ∷ xs) = omega (arith, length_mapped h xs)

reached_listed : (arrows : List Arrow) (start : Basic) (n : ℕ) (y : Basic)
    → Walk (Along arrows) start n y → Contains (start ∷ map (λ (a : Arrow). a.to) arrows) y
reached_listed arrows start zero y same =
    subst (Contains (start ∷ map (λ (a : Arrow). a.to) arrows)) same
    (Contains-first start (map (λ (a : Arrow). a.to) arrows))
reached_listed arrows start (suc n) y (z, walk, taken) =
    Contains-later start (map (λ (a : Arrow). a.to) arrows) y
    (Contains-map (λ (a : Arrow). a.to) arrows (arrow z y) taken)

-- so they lead to no more than there are arrows, and the start
pub never_more : (eq : Basic → Basic → Bool) → IsEquivalence eq → IsExact eq
    → (arrows : List Arrow) (start : Basic) (room : ℕ) → length arrows < room
    → ReachesMore (Along arrows) start room → ⊥
never_more eq laws exact arrows start room few m =
    let bound : List Basic = start ∷ map (λ (a : Arrow). a.to) arrows in
    let le : length m.found ≤ length bound =
    length-le_from_is_member laws m.found bound (IsDistinct-from_AllPairs exact m.found m.distinct)
    (λ q h.
    let r = All-contains (Reaches (Along arrows) start) m.found q m.sound
    (Contains-from_any (λ x y. (exact x y).0) q m.found h) in
    list_any-from_Contains laws q bound (reached_listed arrows start r.0 q r.1)) in
    let more = m.more in
    let long = length_mapped (λ (a : Arrow). a.to) arrows in
    omega arith

module _ (kind : Scope) (incs : List Inclusion) where
  pub along_arrow : (i : Inclusion) (b c : Basic) → Contains incs i
      → Contains (arrows_of kind i) (arrow b c) → Along (all_arrows kind incs) b c
  along_arrow i b c there of = in_flat_map (arrows_of kind) incs i (arrow b c) there of

  pub arrow_from : (b c : Basic) → Along (all_arrows kind incs) b c
      → (i : Inclusion) × Contains incs i × Contains (arrows_of kind i) (arrow b c)
  arrow_from b c there = from_flat_map (arrows_of kind) incs (arrow b c) there

pub forth : (r s : Role) → Contains (role_arrows r s) (arrow (basic.Some r) (basic.Some s))
forth r s = Contains-first (arrow (basic.Some r) (basic.Some s))
    (arrow (basic.Some (inverse_of r)) (basic.Some (inverse_of s)) ∷ [])

pub back : (r s : Role) → Contains (role_arrows r s)
    (arrow (basic.Some (inverse_of r)) (basic.Some (inverse_of s)))
back r s = Contains-later (arrow (basic.Some r) (basic.Some s))
    (arrow (basic.Some (inverse_of r)) (basic.Some (inverse_of s)) ∷ [])
    (arrow (basic.Some (inverse_of r)) (basic.Some (inverse_of s)))
    (Contains-first (arrow (basic.Some (inverse_of r)) (basic.Some (inverse_of s))) [])

pub role_cases : (r s : Role) (b c : Basic) → Contains (role_arrows r s) (arrow b c)
    → ((basic.Some r ≡ b) × (basic.Some s ≡ c))
    ⊎ ((basic.Some (inverse_of r) ≡ b) × (basic.Some (inverse_of s) ≡ c))
role_cases r s b c there =
    elim (Contains-cons_cases (arrow (basic.Some r) (basic.Some s))
    (arrow (basic.Some (inverse_of r)) (basic.Some (inverse_of s)) ∷ []) (arrow b c) there) [
      | inl same ↦ inl (ap (λ (a : Arrow). a.from) same, ap (λ (a : Arrow). a.to) same)
      | inr later ↦ (let same =
          Contains-single (arrow (basic.Some (inverse_of r)) (basic.Some (inverse_of s)))
          (arrow b c)
          later in inr (ap (λ (a : Arrow). a.from) same, ap (λ (a : Arrow). a.to) same))
    ]

not_not : (v : Bool) → not (not v) ≡ v
not_not true = refl
not_not false = refl

pub twice : (r : Role) → inverse_of (inverse_of r) ≡ r
twice r = ap (λ (v : Bool). let it : Role = record { id = r.id; inverse = v } in
    it) (not_not r.inverse)

-- a role arrow is one of elements too
pub lifted_arrow : (i : Inclusion) (a : Arrow) → Contains (arrows_of scope.Pairs i) a
    → Contains (arrows_of scope.Elements i) a
lifted_arrow (inclusion.Concepts b c) a there = absurd (Contains-none a there)
lifted_arrow (inclusion.Roles r s) a there = there
lifted_arrow (inclusion.Qualified b r c) a there = absurd (Contains-none a there)

-- the arrows of pairs come from role inclusions
pub pair_arrow : (incs : List Inclusion) (b c : Basic) → Along (all_arrows scope.Pairs incs) b c
    → (r s : Role) × Contains incs (inclusion.Roles r s) × Contains (role_arrows r s) (arrow b c)
pair_arrow incs b c there = let k = arrow_from scope.Pairs incs b c there in by k.0 k.1 k.2 where
  by : (i : Inclusion) → Contains incs i → Contains (arrows_of scope.Pairs i) (arrow b c)
      → (r s : Role) × Contains incs (inclusion.Roles r s) × Contains (role_arrows r s) (arrow b c)
  by (inclusion.Concepts b' c') listed of = absurd (Contains-none (arrow b c) of)
  by (inclusion.Roles r s) listed of = (r, s, listed, of)
  by (inclusion.Qualified b' r c') listed of = absurd (Contains-none (arrow b c) of)

module _ (incs : List Inclusion) where
  -- above a basic role is above what stands first in its pairs
  pub raised : (r s : Role) → IsAboveRole incs r s → IsAbove incs (basic.Some r) (basic.Some s)
  raised r s (n, walk) =
      along_walk (Along (all_arrows scope.Pairs incs)) (λ (c : Basic).
      IsAbove incs (basic.Some r) c)
      (λ y z taken before.
      let k = arrow_from scope.Pairs incs y z taken in
      one_more (Along (all_arrows scope.Elements incs)) (basic.Some r) y z before
      (along_arrow scope.Elements incs k.0 y z k.1 (lifted_arrow k.0 (arrow y z) k.2)))
      (basic.Some r) (here (Along (all_arrows scope.Elements incs)) (basic.Some r)) n (basic.Some s)
      walk

  abbrev Turned : Role → Basic → Type 0
  Turned r (basic.Concept c) = Unit {0}
  Turned r (basic.Some s) = IsAboveRole incs (inverse_of r) (inverse_of s)

  turned_step : (r : Role) (y z : Basic) → Along (all_arrows scope.Pairs incs) y z → Turned r y
      → Turned r z
  turned_step r y z taken before = let k = pair_arrow incs y z taken in
      by k.0 k.1 k.2 (role_cases k.0 k.1 y z k.3) where
        by : (p q : Role) → Contains incs (inclusion.Roles p q)
            → ((basic.Some p ≡ y) × (basic.Some q ≡ z))
            ⊎ ((basic.Some (inverse_of p) ≡ y) × (basic.Some (inverse_of q) ≡ z)) → Turned r z
        by p q listed (inl (from, to)) =
            let was : IsAboveRole incs (inverse_of r) (inverse_of p) =
            subst (Turned r) (sym from) before in
            subst (Turned r) to
            (one_more (Along (all_arrows scope.Pairs incs)) (basic.Some (inverse_of r))
            (basic.Some (inverse_of p)) (basic.Some (inverse_of q)) was
            (along_arrow scope.Pairs incs (inclusion.Roles p q) (basic.Some (inverse_of p))
            (basic.Some (inverse_of q)) listed (back p q)))
        by p q listed (inr (from, to)) =
            let was : IsAboveRole incs (inverse_of r) (inverse_of (inverse_of p)) =
            subst (Turned r) (sym from) before in
            let forward : IsAboveRole incs (inverse_of r) p =
            subst (IsAboveRole incs (inverse_of r)) (twice p) was in
            let next : IsAboveRole incs (inverse_of r) q =
            one_more (Along (all_arrows scope.Pairs incs)) (basic.Some (inverse_of r))
            (basic.Some p)
            (basic.Some q) forward
            (along_arrow scope.Pairs incs (inclusion.Roles p q) (basic.Some p) (basic.Some q) listed
            (forth p q)) in
            subst (Turned r) to (subst (IsAboveRole incs (inverse_of r)) (sym (twice q)) next)

  -- the inverse of what is above is above the inverse
  pub turned_above : (r s : Role) → IsAboveRole incs r s
      → IsAboveRole incs (inverse_of r) (inverse_of s)
  turned_above r s (n, walk) =
      along_walk (Along (all_arrows scope.Pairs incs)) (Turned r) (turned_step r) (basic.Some r)
      (here (Along (all_arrows scope.Pairs incs)) (basic.Some (inverse_of r))) n (basic.Some s)
      walk
