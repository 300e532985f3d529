-- What a fact that holds puts where, and maps that differ at new nulls.
use Rattle.std.proofs.Common.{◌≡◌, ℕ, Bool, true, false, cond, refl, sym, ap, subst, arith, eq-eqb}
use Rattle.std.specs.Prelude.{◌==◌, ◌↔◌}
use Rattle.std.proofs.lemmas.Bool.{ne_eqb}
use Rattle.dl_syntax.specs.declared.names.RoleId.{RoleId}
use Rattle.dl_syntax.specs.declared.facts.Element.{Element}
use Rattle.dl_syntax.specs.declared.facts.Element.TheVariants.{Ind, Null}
use Rattle.dl_syntax.specs.declared.facts.Fact.{Fact}
use Rattle.dl_syntax.specs.declared.facts.Fact.TheVariants as fact
use Rattle.dl_syntax.specs.declared.ontology.Role.{Role}
use Rattle.dl_syntax.specs.declared.ontology.Basic.{Basic}
use Rattle.dl_syntax.specs.declared.ontology.Basic.TheVariants as basic
use Rattle.dl_syntax.specs.Facts.{In, Pair, role_fact, HasNoNull}
use Rattle.dl_syntax.proofs.Nulls.{IsOld, HasOldElements}
use Rattle.models.specs.Models.{Interpretation, directed, IsPair, IsIn, Holds, HoldsAt, element_at}

module _ {E : Type 0} (I : Interpretation E) where
  -- a fact that holds has no null
  pub Holds-plain : (f : Fact) → Holds I f → HasNoNull f
  Holds-plain (fact.Concept c (Ind i)) holds = tt
  Holds-plain (fact.Concept c (Null n)) holds = absurd holds
  Holds-plain (fact.Role p (Ind i) (Ind j)) holds = (tt, tt)
  Holds-plain (fact.Role p (Ind i) (Null n)) holds = absurd holds
  Holds-plain (fact.Role p (Null n) y) holds = absurd holds

  -- and holds wherever the nulls go
  pub Holds-at : (images : ℕ → E) (f : Fact) → Holds I f → HoldsAt I images f
  Holds-at images (fact.Concept c (Ind i)) holds = holds
  Holds-at images (fact.Concept c (Null n)) holds = absurd holds
  Holds-at images (fact.Role p (Ind i) (Ind j)) holds = holds
  Holds-at images (fact.Role p (Ind i) (Null n)) holds = absurd holds
  Holds-at images (fact.Role p (Null n) y) holds = absurd holds

  directed_holds : (images : ℕ → E) (inverse : Bool) (p : RoleId) (x y : Element)
      → HoldsAt I images (cond inverse (fact.Role p y x) (fact.Role p x y))
      ↔ directed (I.role p) inverse (element_at I images x) (element_at I images y)
  directed_holds images true p x y = (λ h. h, λ h. h)
  directed_holds images false p x y = (λ h. h, λ h. h)

  pub role_fact_holds : (images : ℕ → E) (r : Role) (x y : Element)
      → HoldsAt I images (role_fact r x y)
      ↔ IsPair I r (element_at I images x) (element_at I images y)
  role_fact_holds images r x y = directed_holds images r.inverse r.id x y

  pub Pair-holds : (images : ℕ → E) (r : Role) (x y : Element) (f : Fact) → Pair r x y f
      → HoldsAt I images f → IsPair I r (element_at I images x) (element_at I images y)
  Pair-holds images r x y f is holds =
      (role_fact_holds images r x y).0 (subst (HoldsAt I images) is holds)

  pub In-holds : (images : ℕ → E) (b : Basic) (e : Element) (f : Fact) → In b e f
      → HoldsAt I images f → IsIn I b (element_at I images e)
  In-holds images (basic.Concept c) e f is holds = subst (HoldsAt I images) is holds
  In-holds images (basic.Some r) e f (e', is) holds =
      (element_at I images e', Pair-holds images r e e' f is holds)

  -- the map that sends one null elsewhere
  abbrev pub sent : (ℕ → E) → ℕ → E → ℕ → E
  sent images n x m = cond (m == n) x (images m)

  pub sent_new : (images : ℕ → E) (n : ℕ) (x : E) → sent images n x n ≡ x
  sent_new images n x = ap (λ (b : Bool). cond b x (images n)) (eq-eqb n n refl)

  pub sent_old : (images : ℕ → E) (n : ℕ) (x : E) (e : Element) → IsOld n e
      → element_at I (sent images n x) e ≡ element_at I images e
  sent_old images n x (Ind i) old = refl
  sent_old images n x (Null m) old =
      ap (λ (b : Bool). cond b x (images m)) (ne_eqb m n (λ same. omega (arith, same, old)))

  pub HoldsAt-old : (images : ℕ → E) (n : ℕ) (x : E) (f : Fact) → HasOldElements n f
      → HoldsAt I images f → HoldsAt I (sent images n x) f
  HoldsAt-old images n x (fact.Concept c e) old holds =
      subst (I.concept c) (sym (sent_old images n x e old)) holds
  HoldsAt-old images n x (fact.Role p e e') old holds =
      subst (λ (u : E). I.role p u (element_at I (sent images n x) e'))
      (sym (sent_old images n x e old.0))
      (subst (λ (u : E). I.role p (element_at I images e) u) (sym (sent_old images n x e' old.1))
      holds)

  -- a pair of the role with the new null's image
  pub new_pair : (images : ℕ → E) (n : ℕ) (x : E) (r : Role) (e : Element) → IsOld n e
      → IsPair I r (element_at I images e) x → HoldsAt I (sent images n x) (role_fact r e (Null n))
  new_pair images n x r e old pair = (role_fact_holds (sent images n x) r e (Null n)).1
      (subst (λ (u : E). IsPair I r u (sent images n x n)) (sym (sent_old images n x e old))
      (subst (λ (u : E). IsPair I r (element_at I images e) u) (sym (sent_new images n x)) pair))
