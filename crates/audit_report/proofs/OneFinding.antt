-- One thing is found of a list of facts.
use Rattle.std.proofs.Common.{◌≡◌, ℕ, ◌<◌, ◌≤◌, List, take, get_or, length, refl, sym, ap, ◌∙◌}
use Rattle.std.proofs.Common.{subst, arith, inl, inr}
use Rattle.std.specs.Prelude.{◌⊎◌, Option, Some, slice_get}
use Rattle.std.specs.List.{Contains}
use Rattle.std.proofs.lemmas.List.{get_or-take, length-take-le}
use Rattle.std.proofs.lemmas.Option.{slice_get_within, get_or_from_slice_get}
use Rattle.std.proofs.lemmas.Bool.{cases_lt}
use Rattle.dl_syntax.specs.declared.facts.Fact.{Fact}
use Rattle.dl_syntax.specs.declared.ontology.Inclusion.{Inclusion}
use Rattle.dl_syntax.specs.Ontology.{Declared}
use Rattle.model_audit.specs.FiniteModels.{Keeps, Satisfies, Avoids}
use Rattle.model_audit.specs.First.{LacksFirst}
use Rattle.model_audit.specs.Examining.{IsFound, IsBroken}
use Rattle.model_audit.specs.declared.examining.Finding.{Finding}
use Rattle.model_audit.specs.declared.examining.Finding.TheVariants.{
  Missing,
  Broken,
  Clash as Met,
  Model,
}
use Rattle.model_audit.proofs.Findings.{lacks_not_all}

module _ {X : Type 0} (P : X → Type 0) (xs : List X) where
  -- no earlier element lacks it
  not_before : (k l : ℕ) → k < l → LacksFirst P xs k → LacksFirst P xs l → ⊥
  not_before k l less one other =
      let below : l < length xs = slice_get_within xs l other.element other.there in
      let whole : length (take l xs) ≡ l = length-take-le l xs (omega (arith, below)) in
      let short : k < length (take l xs) = omega (arith, less, whole) in
      let there : get_or (take l xs) k one.element ≡ one.element =
      get_or-take l xs k one.element less
      ∙ get_or_from_slice_get xs k one.element one.element one.there in
      one.lacks (subst P there (other.earlier k one.element short))

  pub lacks_once : (k l : ℕ) → LacksFirst P xs k → LacksFirst P xs l → k ≡ l
  lacks_once k l one other = go (cases_lt k l) (cases_lt l k)
    where
      go : (k < l) ⊎ (l ≤ k) → (l < k) ⊎ (k ≤ l) → k ≡ l
      go (inl less) either = absurd (not_before k l less one other)
      go (inr more) (inl less) = absurd (not_before l k less other one)
      go (inr more) (inr less) = omega (arith, more, less)

same_some : {X : Type 0} (x y : X) (found : Option X) → found ≡ Some x → found ≡ Some y → x ≡ y
same_some {X = X} x y found one other = let same : (let e : Option X = Some x in e) ≡ Some y =
    sym one ∙ other in cc

module _ (inclusions : List Inclusion) (facts : List Fact) where
  -- the first inclusion that the facts don't satisfy
  pub broken_first : (number place : ℕ) (b : IsBroken inclusions facts facts number place)
      → LacksFirst (Satisfies facts) inclusions b.before
  broken_first number place b = record {
    element = b.inclusion;
    there = b.there;
    lacks = lacks_not_all (Keeps facts b.inclusion) facts place b.broken;
    earlier = b.earlier;
  }

  broken_place : (number place later other : ℕ)
      (b : IsBroken inclusions facts facts number place)
      (d : IsBroken inclusions facts facts later other) → b.before ≡ d.before → place ≡ other
  broken_place number place later other b d same =
      let inclusion : b.inclusion ≡ d.inclusion =
      same_some b.inclusion d.inclusion (slice_get inclusions d.before)
      (ap (slice_get inclusions) (sym same) ∙ b.there) d.there in
      lacks_once (Keeps facts d.inclusion) facts place other
      (subst (λ (i : Inclusion). LacksFirst (Keeps facts i) facts place) inclusion b.broken)
      d.broken

  pub broken_once : (number place later other : ℕ)
      → IsBroken inclusions facts facts number place → IsBroken inclusions facts facts later other
      → (number ≡ later) × (place ≡ other)
  broken_once number place later other b d =
      let same : b.before ≡ d.before =
      lacks_once (Satisfies facts) inclusions b.before d.before (broken_first number place b)
      (broken_first later other d) in
      (omega (arith, b.counted, d.counted, same), broken_place number place later other b d same)

module _ (o : Declared) (snapshot facts : List Fact) where
  pub found_once : (one other : Finding) → IsFound o snapshot facts one
      → IsFound o snapshot facts other → one ≡ other
  found_once (Missing k) (Missing l) p q =
      ap Missing (lacks_once (Contains facts) snapshot k l p q)
  found_once (Missing k) (Broken i f) p q =
      absurd (lacks_not_all (Contains facts) snapshot k p q.0)
  found_once (Missing k) (Met m) p q = absurd (lacks_not_all (Contains facts) snapshot k p q.0)
  found_once (Missing k) Model p q = absurd (lacks_not_all (Contains facts) snapshot k p q.holds)
  found_once (Broken i f) (Missing l) p q =
      absurd (lacks_not_all (Contains facts) snapshot l q p.0)
  found_once (Broken i f) (Broken j g) p q =
      let same = broken_once o.inclusions facts i f j g p.1 q.1 in
      ap (λ (n : ℕ). Broken n f) same.0 ∙ ap (λ (n : ℕ). Broken j n) same.1
  found_once (Broken i f) (Met m) p q =
      absurd (lacks_not_all (Satisfies facts) o.inclusions p.1.before
      (broken_first o.inclusions facts i f p.1) q.1)
  found_once (Broken i f) Model p q =
      absurd (lacks_not_all (Satisfies facts) o.inclusions p.1.before
      (broken_first o.inclusions facts i f p.1) q.satisfies)
  found_once (Met m) (Missing l) p q = absurd (lacks_not_all (Contains facts) snapshot l q p.0)
  found_once (Met m) (Broken j g) p q =
      absurd (lacks_not_all (Satisfies facts) o.inclusions q.1.before
      (broken_first o.inclusions facts j g q.1) p.1)
  found_once (Met m) (Met n) p q =
      let same : p.2.before ≡ q.2.before =
      lacks_once (Avoids facts) o.clashes p.2.before q.2.before p.2.met q.2.met in
      ap Met (omega (arith, p.2.counted, q.2.counted, same))
  found_once (Met m) Model p q =
      absurd (lacks_not_all (Avoids facts) o.clashes p.2.before p.2.met q.avoids)
  found_once Model (Missing l) p q = absurd (lacks_not_all (Contains facts) snapshot l q p.holds)
  found_once Model (Broken j g) p q =
      absurd (lacks_not_all (Satisfies facts) o.inclusions q.1.before
      (broken_first o.inclusions facts j g q.1) p.satisfies)
  found_once Model (Met n) p q =
      absurd (lacks_not_all (Avoids facts) o.clashes q.2.before q.2.met p.avoids)
  found_once Model Model p q = refl
