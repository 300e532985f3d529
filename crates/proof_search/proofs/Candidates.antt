-- Of the facts of an index, those that an atom can become.
use Rattle.std.proofs.Common.{◌≡◌, List, refl, ap, ◌∙◌, eq-eqb}
use Rattle.std.specs.Prelude.{Some, true, ◌↔◌}
use Rattle.std.specs.List.{Contains}
use Rattle.dl_syntax.specs.declared.names.ConceptId.{ConceptId}
use Rattle.dl_syntax.specs.declared.names.RoleId.{RoleId}
use Rattle.dl_syntax.specs.declared.facts.Element.{Element}
use Rattle.dl_syntax.specs.declared.facts.Fact.{Fact}
use Rattle.dl_syntax.specs.declared.facts.Fact.TheVariants as fact
use Rattle.dl_syntax.specs.declared.queries.Term.{Term}
use Rattle.dl_syntax.specs.declared.queries.Term.TheVariants as term
use Rattle.dl_syntax.specs.declared.queries.Atom.TheVariants as atom
use Rattle.dl_syntax.specs.Match.{Assignment, term_at, atom_at}
use Rattle.fact_index.specs.Order.{is_of_concept, is_of_role, first_of, last_of, element_eq}
use Rattle.fact_index.proofs.Orders.{element_eq-refl}
use Rattle.ucq_join.proofs.Witnesses.{Keeps}
use Rattle.proof_search.specs.declared.bindings.Binding.{Binding}
use Rattle.proof_search.specs.Bindings.{Extends}
use Rattle.proof_search.specs.Known.{bound_to, IsComplete}

bound_under : (bs : List Binding) (x : Term) (e : Element) (t : Assignment)
    → bound_to bs x ≡ Some e → Extends bs t → term_at t x ≡ e
bound_under bs (term.Ind a) e t h x = cc
bound_under bs (term.Var v) e t h x = x.at v e h

at_element : (u e : Element) → u ≡ e → element_eq u e ≡ true
at_element u e h = ap (λ z. element_eq z e) h ∙ element_eq-refl e

module _ (bs : List Binding) (facts part : List Fact) where
  pub concept_at : (c : ConceptId) (x : Term) (e : Element) → bound_to bs x ≡ Some e
      → Keeps facts part (λ f. (is_of_concept c f ≡ true) × (element_eq (first_of f) e ≡ true))
      → IsComplete bs (atom.Concept c x) facts part
  concept_at c x e h k t ext m =
      k.kept (atom_at t (atom.Concept c x)) m
      (eq-eqb c.0 c.0 refl, at_element (term_at t x) e (bound_under bs x e t h ext))

  pub concept_all : (c : ConceptId) (x : Term) → Keeps facts part (λ f. is_of_concept c f ≡ true)
      → IsComplete bs (atom.Concept c x) facts part
  concept_all c x k t ext m = k.kept (atom_at t (atom.Concept c x)) m (eq-eqb c.0 c.0 refl)

  pub role_at_first : (p : RoleId) (x y : Term) (e : Element) → bound_to bs x ≡ Some e
      → Keeps facts part (λ f. (is_of_role p f ≡ true) × (element_eq (first_of f) e ≡ true))
      → IsComplete bs (atom.Role p x y) facts part
  role_at_first p x y e h k t ext m =
      k.kept (atom_at t (atom.Role p x y)) m
      (eq-eqb p.0 p.0 refl, at_element (term_at t x) e (bound_under bs x e t h ext))

  pub role_at_last : (p : RoleId) (x y : Term) (e : Element) → bound_to bs y ≡ Some e
      → Keeps facts part (λ f. (is_of_role p f ≡ true) × (element_eq (last_of f) e ≡ true))
      → IsComplete bs (atom.Role p x y) facts part
  role_at_last p x y e h k t ext m =
      k.kept (atom_at t (atom.Role p x y)) m
      (eq-eqb p.0 p.0 refl, at_element (term_at t y) e (bound_under bs y e t h ext))

  pub role_all : (p : RoleId) (x y : Term) → Keeps facts part (λ f. is_of_role p f ≡ true)
      → IsComplete bs (atom.Role p x y) facts part
  role_all p x y k t ext m = k.kept (atom_at t (atom.Role p x y)) m (eq-eqb p.0 p.0 refl)

  pub role_at_both : (p : RoleId) (x y : Term) (d e : Element) → bound_to bs x ≡ Some d
      → bound_to bs y ≡ Some e
      → ((f : Fact) → Contains part f ↔ (Contains facts f × (f ≡ fact.Role p d e)))
      → IsComplete bs (atom.Role p x y) facts part
  role_at_both p x y d e h g k t ext m = (k (atom_at t (atom.Role p x y))).1 (
    m,
    ap (λ u. fact.Role p u (term_at t y)) (bound_under bs x d t h ext)
        ∙ ap (λ u. fact.Role p d u) (bound_under bs y e t g ext),
  )
