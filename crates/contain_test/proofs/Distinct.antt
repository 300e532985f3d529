-- The atoms of a normal form are distinct, and so are the facts that they become when they are
-- frozen.
use Rattle.std.proofs.Common.{
  ◌≡◌,
  ℕ,
  ◌+◌,
  Bool,
  true,
  false,
  cond,
  List,
  [],
  ◌∷◌,
  map,
  sym,
  ◌∙◌,
  ap,
  ap₂,
  arith,
}
use Rattle.std.specs.Prelude.{◌≢◌}
use Rattle.std.specs.List.{All, AllPairs, Contains, filter}
use Rattle.std.proofs.lemmas.List.Elements.{
  All-contains,
  All-head,
  All-tail,
  All-weaker,
  filter_passes,
}
use Rattle.std.proofs.lemmas.List.Kept.{AllPairs-cons, AllPairs-filter}
use Rattle.dl_syntax.specs.declared.names.IndId.{IndId}
use Rattle.dl_syntax.specs.declared.facts.Fact.{Fact}
use Rattle.dl_syntax.specs.declared.queries.Term.{Term}
use Rattle.dl_syntax.specs.declared.queries.Term.TheVariants.{Var, Ind}
use Rattle.dl_syntax.specs.declared.queries.Atom.{Atom}
use Rattle.dl_syntax.specs.declared.queries.Atom.TheVariants as atom
use Rattle.dl_syntax.specs.declared.queries.Cq.{Cq}
use Rattle.dl_syntax.specs.Facts.{HasNoNull}
use Rattle.dl_syntax.specs.Snapshots.{IsSnapshot}
use Rattle.list_lemmas.proofs.Elements.{All-from_contains, AllPairs-nil, AllPairs-head}
use Rattle.list_lemmas.proofs.Elements.{AllPairs-tail}
use Rattle.list_lemmas.proofs.Maps.{Contains-from_map}
use Rattle.query_unify.specs.Normal.{first_places, normalise, numbering, same_atom}
use Rattle.query_unify.specs.Substitution.{applied_atom}
use Rattle.query_unify.proofs.Repeats.{same_atom-itself}
use Rattle.models.specs.Containment.{IsTermBelow, IsAtomBelow, frozen_term, frozen_atom, frozen}
use Rattle.models.proofs.Freezing.{frozen_plain}

module _ {X : Type 0} (same : X → X → Bool) (itself : (x : X) → same x x ≡ true) where
  apart : (x y : X) → cond (same x y) false true ≡ true → x ≢ y
  apart x y passes is = falls (same x y) (ap (same x) (sym is) ∙ itself x) passes
    where
      falls : (b : Bool) → b ≡ true → cond b false true ≡ true → ⊥
      falls true there passed = cc
      falls false there passed = cc

  pub first_places_distinct : (xs : List X) → AllPairs (λ x y. x ≢ y) (first_places same xs)
  first_places_distinct [] = AllPairs-nil (λ x y. x ≢ y)
  first_places_distinct (x ∷ xs) =
      let test : X → Bool = λ y. cond (same x y) false true in
      let rest : List X = first_places same xs in
      AllPairs-cons (λ y z. y ≢ z) x (filter test rest)
      (All-weaker (λ y. test y ≡ true) (λ y. x ≢ y) (λ y passes. apart x y passes)
      (filter test rest) (filter_passes test rest))
      (AllPairs-filter (λ y z. y ≢ z) test rest (first_places_distinct xs))

pub normal_distinct : (q : Cq) → AllPairs (λ a b. a ≢ b) (normalise q).body
normal_distinct q =
    first_places_distinct same_atom same_atom-itself (map (applied_atom (numbering q)) q.body)

module _ (bound : ℕ) where
  one_term : (x y : Term) → IsTermBelow bound x → IsTermBelow bound y
      → frozen_term bound x ≡ frozen_term bound y → x ≡ y
  one_term (Var v) (Var w) below other is =
      let numbers : bound + v ≡ bound + w = ap (λ (i : IndId). i.0) is in
      let equal : v ≡ w = omega arith in
      ap Var equal
  one_term (Var v) (Ind j) below other is =
      absurd (let numbers : bound + v ≡ j.0 = ap (λ (i : IndId). i.0) is in omega (arith, other))
  one_term (Ind i) (Var w) below other is =
      absurd (let numbers : i.0 ≡ bound + w = ap (λ (k : IndId). k.0) is in omega (arith, below))
  one_term (Ind i) (Ind j) below other is = ap Ind is

  one_atom : (a b : Atom) → IsAtomBelow bound a → IsAtomBelow bound b
      → frozen_atom bound a ≡ frozen_atom bound b → a ≡ b
  one_atom (atom.Concept c x) (atom.Concept d y) below other is =
      let named : c ≡ d = cc in
      let placed : frozen_term bound x ≡ frozen_term bound y = cc in
      ap₂ atom.Concept named (one_term x y below other placed)
  one_atom (atom.Concept c x) (atom.Role p y z) below other is = absurd (cc)
  one_atom (atom.Role p y z) (atom.Concept c x) below other is = absurd (cc)
  one_atom (atom.Role p x y) (atom.Role r z w) below other is =
      let named : p ≡ r = cc in
      let first : x ≡ z = one_term x z below.0 other.0 (cc) in
      let second : y ≡ w = one_term y w below.1 other.1 (cc) in
      cc

  pub frozen_distinct : (body : List Atom) → AllPairs (λ a b. a ≢ b) body
      → All (IsAtomBelow bound) body
      → AllPairs (λ f g. f ≢ g) (map (frozen_atom bound) body)
  frozen_distinct [] distinct below = AllPairs-nil (λ f g. f ≢ g)
  frozen_distinct (a ∷ body) distinct below =
      AllPairs-cons (λ f g. f ≢ g) (frozen_atom bound a) (map (frozen_atom bound) body)
      (All-from_contains (λ g. frozen_atom bound a ≢ g) (map (frozen_atom bound) body)
      (λ g there. other g (Contains-from_map (frozen_atom bound) body g there)))
      (frozen_distinct body (AllPairs-tail (λ b d. b ≢ d) a body distinct)
      (All-tail (IsAtomBelow bound) a body below))
    where
      other : (g : Fact) → (b : Atom) × Contains body b × (frozen_atom bound b ≡ g)
          → frozen_atom bound a ≢ g
      other g (b, there, is) same =
          AllPairs-head (λ c d. c ≢ d) a body b distinct there
          (one_atom a b (All-head (IsAtomBelow bound) a body below)
          (All-contained b there) (same ∙ sym is))
        where
          All-contained : (b : Atom) → Contains body b → IsAtomBelow bound b
          All-contained b inside =
              All-contains (IsAtomBelow bound) body b (All-tail (IsAtomBelow bound) a body below)
              inside

pub frozen_is_snapshot : (bound : ℕ) (q : Cq) → AllPairs (λ a b. a ≢ b) q.body
    → All (IsAtomBelow bound) q.body
    → IsSnapshot (frozen bound q)
frozen_is_snapshot bound q distinct below = record {
  distinct = frozen_distinct bound q.body distinct below;
  without_nulls = All-from_contains HasNoNull (frozen bound q) (frozen_plain bound q);
}
