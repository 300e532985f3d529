-- Interpretations over the elements of facts.
use Rattle.std.specs.List.{All}
use Rattle.std.proofs.lemmas.List.Elements.{All-weaker}
use Rattle.std.proofs.Common.{◌≡◌, List, map, sym, ℕ, Bool, true, false, cond, refl, subst}
use Rattle.std.specs.Prelude.{◌↔◌}
use Rattle.dl_syntax.specs.declared.names.RoleId.{RoleId}
use Rattle.dl_syntax.specs.declared.facts.Element.{Element}
use Rattle.dl_syntax.specs.declared.facts.Element.TheVariants.{Ind as ind_element, Null}
use Rattle.dl_syntax.specs.declared.facts.Fact.{Fact}
use Rattle.dl_syntax.specs.declared.facts.Fact.TheVariants as fact
use Rattle.dl_syntax.specs.declared.ontology.Role.{Role}
use Rattle.dl_syntax.specs.declared.ontology.Basic.{Basic}
use Rattle.dl_syntax.specs.declared.ontology.Basic.TheVariants as basic
use Rattle.dl_syntax.specs.declared.names.IndId.{IndId}
use Rattle.dl_syntax.specs.declared.queries.Term.{Term}
use Rattle.dl_syntax.specs.declared.queries.Term.TheVariants.{Var, Ind}
use Rattle.dl_syntax.specs.declared.queries.Atom.{Atom}
use Rattle.dl_syntax.specs.declared.queries.Atom.TheVariants as atom
use Rattle.dl_syntax.specs.Facts.{In, role_fact, HasNoNull}
use Rattle.dl_syntax.specs.Match.{Assignment, term_at, atom_at}
use Rattle.list_lemmas.proofs.Maps.{map_alike}
use Rattle.dl_syntax.specs.Chase.{basic_fact}
use Rattle.models.specs.Models.{Interpretation, directed, IsPair, IsIn, Holds, AtomHolds, term_in}

-- the interpretation has the fact, each element as it is
abbrev pub Has : Interpretation Element → Fact → Type 0
Has I (fact.Concept c x) = I.concept c x
Has I (fact.Role p x y) = I.role p x y

directed_had : (I : Interpretation Element) (inverse : Bool) (p : RoleId) (x y : Element)
    → Has I (cond inverse (fact.Role p y x) (fact.Role p x y)) ↔ directed (I.role p) inverse x y
directed_had I true p x y = (λ h. h, λ h. h)
directed_had I false p x y = (λ h. h, λ h. h)

pub pair_had : (I : Interpretation Element) (r : Role) (x y : Element) → Has I (role_fact r x y)
    ↔ IsPair I r x y
pair_had I r x y = directed_had I r.inverse r.id x y

pub In-had : (I : Interpretation Element) (b : Basic) (x : Element) (f : Fact) → In b x f → Has I f
    → IsIn I b x
In-had I (basic.Concept c) x f is had = subst (Has I) is had
In-had I (basic.Some r) x f (y, is) had = (y, (pair_had I r x y).0 (subst (Has I) is had))

-- the fact that shows it
pub had-In : (I : Interpretation Element) (b : Basic) (x : Element) → IsIn I b x → (f : Fact)
    × In b x f × Has I f
had-In I (basic.Concept c) x is = (fact.Concept c x, refl, is)
had-In I (basic.Some r) x (y, pair) = (role_fact r x y, (y, refl), (pair_had I r x y).1 pair)

basic_fact_in : (c : Basic) (x : Element) (place : ℕ) → In c x (basic_fact c x place)
basic_fact_in (basic.Concept c) x place = refl
basic_fact_in (basic.Some r) x place = (Null place, refl)

pub basic_had : (I : Interpretation Element) (c : Basic) (x : Element) (place : ℕ)
    → Has I (basic_fact c x place) → IsIn I c x
basic_had I c x place had = In-had I c x (basic_fact c x place) (basic_fact_in c x place) had

-- a fact over individuals that the interpretation has holds in it, where each individual is itself
pub plain_holds : (I : Interpretation Element) → ((i : IndId) → I.individual i ≡ ind_element i)
    → (f : Fact) → HasNoNull f → Has I f → Holds I f
plain_holds I itself (fact.Concept c (ind_element i)) none had =
    subst (I.concept c) (sym (itself i)) had
plain_holds I itself (fact.Concept c (Null n)) none had = absurd none
plain_holds I itself (fact.Role p (ind_element i) (ind_element j)) none had =
    subst (λ (u : Element). I.role p u (I.individual j)) (sym (itself i))
    (subst (λ (u : Element). I.role p (ind_element i) u) (sym (itself j)) had)
plain_holds I itself (fact.Role p (ind_element i) (Null n)) none had = absurd none.1
plain_holds I itself (fact.Role p (Null n) y) none had = absurd none.0

-- if the term is an individual, it is itself
abbrev pub KeepsTerm : Interpretation Element → Term → Type 0
KeepsTerm I (Var v) = Unit {0}
KeepsTerm I (Ind i) = I.individual i ≡ ind_element i

abbrev pub KeepsAtom : Interpretation Element → Atom → Type 0
KeepsAtom I (atom.Concept c x) = KeepsTerm I x
KeepsAtom I (atom.Role p x y) = KeepsTerm I x × KeepsTerm I y

pub keeps_term : (I : Interpretation Element) → ((i : IndId) → I.individual i ≡ ind_element i)
    → (x : Term) → KeepsTerm I x
keeps_term I itself (Var v) = tt
keeps_term I itself (Ind i) = itself i

pub keeps_atom : (I : Interpretation Element) → ((i : IndId) → I.individual i ≡ ind_element i)
    → (a : Atom) → KeepsAtom I a
keeps_atom I itself (atom.Concept c x) = keeps_term I itself x
keeps_atom I itself (atom.Role p x y) = (keeps_term I itself x, keeps_term I itself y)

pub term_kept : (I : Interpretation Element) (s : Assignment) (x : Term) → KeepsTerm I x
    → term_in I s x ≡ term_at s x
term_kept I s (Var v) keeps = refl
term_kept I s (Ind i) keeps = keeps

pub atom_kept : (I : Interpretation Element) (s : Assignment) (a : Atom) → KeepsAtom I a
    → AtomHolds I s a → Has I (atom_at s a)
atom_kept I s (atom.Concept c x) keeps holds = subst (I.concept c) (term_kept I s x keeps) holds
atom_kept I s (atom.Role p x y) keeps holds =
    subst (λ (u : Element). I.role p u (term_at s y)) (term_kept I s x keeps.0)
    (subst (λ (u : Element). I.role p (term_in I s x) u) (term_kept I s y keeps.1) holds)

pub head_kept : (I : Interpretation Element) (s : Assignment) (head : List Term)
    → All (KeepsTerm I) head → map (term_at s) head ≡ map (term_in I s) head
head_kept I s head keeps =
    sym (map_alike (term_in I s) (term_at s) head
    (All-weaker (KeepsTerm I) (λ x. term_in I s x ≡ term_at s x) (term_kept I s) head keeps))
