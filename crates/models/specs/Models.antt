-- Interpretations and models of a snapshot, told without the chase, after Calvanese, De Giacomo,
-- Lembo, Lenzerini and Rosati 2007.
-- Two individuals may be one element: no inclusion or clash of DL-Lite_R tells them apart.
use Rattle.std.specs.Prelude.{◌≡◌, ℕ, Bool, true, false, List, map}
use Rattle.std.specs.List.{All, Contains}
use Rattle.dl_syntax.specs.declared.names.ConceptId.{ConceptId}
use Rattle.dl_syntax.specs.declared.names.RoleId.{RoleId}
use Rattle.dl_syntax.specs.declared.names.IndId.{IndId}
use Rattle.dl_syntax.specs.declared.facts.Element.{Element}
use Rattle.dl_syntax.specs.declared.facts.Element.TheVariants.{Ind as ind_element, Null}
use Rattle.dl_syntax.specs.declared.facts.Fact.{Fact}
use Rattle.dl_syntax.specs.declared.facts.Fact.TheVariants as fact
use Rattle.dl_syntax.specs.declared.ontology.Role.{Role}
use Rattle.dl_syntax.specs.declared.ontology.Basic.{Basic}
use Rattle.dl_syntax.specs.declared.ontology.Basic.TheVariants as basic
use Rattle.dl_syntax.specs.declared.ontology.Inclusion.{Inclusion}
use Rattle.dl_syntax.specs.declared.ontology.Inclusion.TheVariants as inclusion
use Rattle.dl_syntax.specs.declared.ontology.Clash.{Clash}
use Rattle.dl_syntax.specs.declared.ontology.Clash.TheVariants as clash
use Rattle.dl_syntax.specs.declared.queries.Term.{Term}
use Rattle.dl_syntax.specs.declared.queries.Term.TheVariants.{Var, Ind}
use Rattle.dl_syntax.specs.declared.queries.Atom.{Atom}
use Rattle.dl_syntax.specs.declared.queries.Atom.TheVariants as atom
use Rattle.dl_syntax.specs.declared.queries.Cq.{Cq}

-- which element each individual is, what is in each concept, and what each role's pairs are
pub record Interpretation (E : Type 0) : Type 1 where
  pub individual : IndId → E
  pub concept : ConceptId → E → Type 0
  pub role : RoleId → E → E → Type 0

abbrev pub interpreted : {E : Type 0} → (IndId → E) → (ConceptId → E → Type 0)
    → (RoleId → E → E → Type 0) → Interpretation E
interpreted individual concept role = record {
  individual = individual;
  concept = concept;
  role = role;
}

-- the relation, turned round where the role is an inverse
abbrev pub directed : {E : Type 0} → (E → E → Type 0) → Bool → E → E → Type 0
directed R true x y = R y x
directed R false x y = R x y

-- the two elements are a pair of the basic role
abbrev pub IsPair : {E : Type 0} → Interpretation E → Role → E → E → Type 0
IsPair I r x y = directed (I.role r.id) r.inverse x y

-- the element is in the basic concept
abbrev pub IsIn : {E : Type 0} → Interpretation E → Basic → E → Type 0
IsIn I (basic.Concept c) x = I.concept c x
IsIn {E} I (basic.Some r) x = (y : E) × IsPair I r x y

-- wherever the left side holds, the right side holds
abbrev pub Satisfies : {E : Type 0} → Interpretation E → Inclusion → Type 0
Satisfies {E} I (inclusion.Concepts b c) = (x : E) → IsIn I b x → IsIn I c x
Satisfies {E} I (inclusion.Roles r s) = (x y : E) → IsPair I r x y → IsPair I s x y
Satisfies {E} I (inclusion.Qualified b r c) = (x : E) → IsIn I b x → (y : E) × IsPair I r x y
    × I.concept c y

-- the two sides of the clash share nothing
abbrev pub Avoids : {E : Type 0} → Interpretation E → Clash → Type 0
Avoids {E} I (clash.Concepts b c) = (x : E) → IsIn I b x → ¬ IsIn I c x
Avoids {E} I (clash.Roles r s) = (x y : E) → IsPair I r x y → ¬ IsPair I s x y

-- the fact over individuals holds; a fact with a null says nothing of an interpretation, and holds
-- in none
abbrev pub Holds : {E : Type 0} → Interpretation E → Fact → Type 0
Holds I (fact.Concept c (ind_element i)) = I.concept c (I.individual i)
Holds I (fact.Concept c (Null n)) = ⊥
Holds I (fact.Role p (ind_element i) (ind_element j)) = I.role p (I.individual i) (I.individual j)
Holds I (fact.Role p (ind_element i) (Null n)) = ⊥
Holds I (fact.Role p (Null n) y) = ⊥

-- the interpretation has the snapshot's facts, satisfies the inclusions and is in no clash
pub record IsModel {E : Type 0} (I : Interpretation E) (inclusions : List Inclusion)
    (clashes : List Clash) (snapshot : List Fact) : Type 0 where
  pub facts : (f : Fact) → Contains snapshot f → Holds I f
  pub satisfies : (i : Inclusion) → Contains inclusions i → Satisfies I i
  pub avoids : (c : Clash) → Contains clashes c → Avoids I c

-- the element, where the nulls have the images
abbrev pub element_at : {E : Type 0} → Interpretation E → (ℕ → E) → Element → E
element_at I images (ind_element i) = I.individual i
element_at I images (Null n) = images n

-- the fact holds of the images of its elements
abbrev pub HoldsAt : {E : Type 0} → Interpretation E → (ℕ → E) → Fact → Type 0
HoldsAt I images (fact.Concept c e) = I.concept c (element_at I images e)
HoldsAt I images (fact.Role p x y) = I.role p (element_at I images x) (element_at I images y)

-- a map of the facts' elements that keeps individuals and sends each fact to one that holds
abbrev pub MapsInto : {E : Type 0} → List Fact → Interpretation E → Type 0
MapsInto {E} facts I = (images : ℕ → E) × ((f : Fact) → Contains facts f → HoldsAt I images f)

-- the element of the term, where the variables have the values
abbrev pub term_in : {E : Type 0} → Interpretation E → (ℕ → E) → Term → E
term_in I t (Var v) = t v
term_in I t (Ind i) = I.individual i

abbrev pub AtomHolds : {E : Type 0} → Interpretation E → (ℕ → E) → Atom → Type 0
AtomHolds I t (atom.Concept c x) = I.concept c (term_in I t x)
AtomHolds I t (atom.Role p x y) = I.role p (term_in I t x) (term_in I t y)

-- values of the variables at which the body holds and the head is the row
abbrev pub Answers : {E : Type 0} → Interpretation E → Cq → List IndId → Type 0
Answers {E} I q row = (t : ℕ → E) × All (AtomHolds I t) q.body
    × (map (term_in I t) q.head ≡ map I.individual row)
