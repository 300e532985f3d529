use Rattle.std.proofs.Common.{◌≡◌, sym, ◌∙◌, subst, Some, true}
use Rattle.dl_syntax.specs.declared.queries.Atom.{Atom}
use Rattle.fact_index.specs.Order.{is_of_concept, is_of_role, first_of, last_of, element_eq}
use Rattle.proof_search.specs.Known.{bound_to, IsComplete}
use Rattle.ucq_join.proofs.Witnesses.{keeps_members, keeps_filter, keeps_then}
use Rattle.proof_search.proofs.Candidates.{concept_at, concept_all, role_at_first, role_at_last}
use Rattle.proof_search.proofs.Candidates.{role_all, role_at_both}
use Rattle.proof_search.proofs.known.indexed.Goals as goal

pub returns-in-Some-clause-within : goal.returns-in-Some-clause-within
returns-in-Some-clause-within c =
    (keeps_then c.args.index.now c.concept.result.now c.with_first.result.now (λ f.
    is_of_concept c.in-Concept.id f ≡ true) (λ f. element_eq (first_of f) c.in-Some.element
    ≡ true) (keeps_filter (is_of_concept c.in-Concept.id) c.args.index.now c.concept.result.now
    c.concept.ensures.facts) (keeps_filter (λ f.
    element_eq (first_of f) c.in-Some.element) c.concept.result.now c.with_first.result.now
    c.with_first.ensures)).within

pub returns-in-Some-clause-complete : goal.returns-in-Some-clause-complete
returns-in-Some-clause-complete c =
    let P : Atom → Type 0 = λ a. IsComplete c.args.bindings.now a c.args.index.now
    c.with_first.result.now in
    subst P (sym c.in-Concept.is) (concept_at c.args.bindings.now c.args.index.now
    c.with_first.result.now c.in-Concept.id c.in-Concept.term c.in-Some.element
    (sym c.bound_to.ensures ∙ c.in-Some.is)
    (keeps_then c.args.index.now c.concept.result.now c.with_first.result.now (λ f.
    is_of_concept c.in-Concept.id f ≡ true) (λ f. element_eq (first_of f) c.in-Some.element
    ≡ true) (keeps_filter (is_of_concept c.in-Concept.id) c.args.index.now c.concept.result.now
    c.concept.ensures.facts) (keeps_filter (λ f.
    element_eq (first_of f) c.in-Some.element) c.concept.result.now c.with_first.result.now
    c.with_first.ensures)))

pub returns-in-None-clause-within : goal.returns-in-None-clause-within
returns-in-None-clause-within c =
    (keeps_filter (is_of_concept c.in-Concept.id) c.args.index.now c.concept-in-None.result.now
    c.concept-in-None.ensures.facts).within

pub returns-in-None-clause-complete : goal.returns-in-None-clause-complete
returns-in-None-clause-complete c =
    let P : Atom → Type 0 = λ a. IsComplete c.args.bindings.now a c.args.index.now
    c.concept-in-None.result.now in
    subst P (sym c.in-Concept.is) (concept_all c.args.bindings.now c.args.index.now
    c.concept-in-None.result.now c.in-Concept.id c.in-Concept.term
    (keeps_filter (is_of_concept c.in-Concept.id) c.args.index.now c.concept-in-None.result.now
    c.concept-in-None.ensures.facts))

pub returns-in-Some-Some-clause-within : goal.returns-in-Some-Some-clause-within
returns-in-Some-Some-clause-within c f h = ((c.only.ensures f).0 h).0

pub returns-in-Some-Some-clause-complete : goal.returns-in-Some-Some-clause-complete
returns-in-Some-Some-clause-complete c =
    let P : Atom → Type 0 = λ a. IsComplete c.args.bindings.now a c.args.index.now
    c.only.result.now in
    let first : bound_to c.args.bindings.now c.in-Role.from ≡ Some c.in-Some-Some.first = cc in
    let second : bound_to c.args.bindings.now c.in-Role.to ≡ Some c.in-Some-Some.second = cc in
    subst P (sym c.in-Role.is) (role_at_both c.args.bindings.now c.args.index.now c.only.result.now
    c.in-Role.id c.in-Role.from c.in-Role.to c.in-Some-Some.first c.in-Some-Some.second first
    second c.only.ensures)

pub returns-in-Some-None-clause-within : goal.returns-in-Some-None-clause-within
returns-in-Some-None-clause-within c =
    (keeps_then c.args.index.now c.role.result.now c.with_first-in-Some-None.result.now (λ f.
    is_of_role c.in-Role.id f ≡ true) (λ f. element_eq (first_of f) c.in-Some-None.first
    ≡ true) (keeps_members (is_of_role c.in-Role.id) c.args.index.now c.role.result.now
    c.role.ensures.members) (keeps_filter (λ f.
    element_eq (first_of f) c.in-Some-None.first) c.role.result.now
    c.with_first-in-Some-None.result.now c.with_first-in-Some-None.ensures)).within

pub returns-in-Some-None-clause-complete : goal.returns-in-Some-None-clause-complete
returns-in-Some-None-clause-complete c =
    let P : Atom → Type 0 = λ a. IsComplete c.args.bindings.now a c.args.index.now
    c.with_first-in-Some-None.result.now in
    let place : bound_to c.args.bindings.now c.in-Role.from ≡ Some c.in-Some-None.first = cc in
    subst P (sym c.in-Role.is) (role_at_first c.args.bindings.now c.args.index.now
    c.with_first-in-Some-None.result.now c.in-Role.id c.in-Role.from c.in-Role.to
    c.in-Some-None.first place (keeps_then c.args.index.now c.role.result.now
    c.with_first-in-Some-None.result.now (λ f. is_of_role c.in-Role.id f ≡ true) (λ f.
    element_eq (first_of f) c.in-Some-None.first
    ≡ true) (keeps_members (is_of_role c.in-Role.id) c.args.index.now c.role.result.now
    c.role.ensures.members) (keeps_filter (λ f.
    element_eq (first_of f) c.in-Some-None.first) c.role.result.now
    c.with_first-in-Some-None.result.now c.with_first-in-Some-None.ensures)))

pub returns-in-None-Some-clause-within : goal.returns-in-None-Some-clause-within
returns-in-None-Some-clause-within c =
    (keeps_then c.args.index.now c.role-in-None-Some.result.now c.with_last.result.now (λ f.
    is_of_role c.in-Role.id f ≡ true) (λ f. element_eq (last_of f) c.in-None-Some.second
    ≡ true) (keeps_members (is_of_role c.in-Role.id) c.args.index.now c.role-in-None-Some.result.now
    c.role-in-None-Some.ensures.members)
    (keeps_filter (λ f. element_eq (last_of f) c.in-None-Some.second) c.role-in-None-Some.result.now
    c.with_last.result.now c.with_last.ensures)).within

pub returns-in-None-Some-clause-complete : goal.returns-in-None-Some-clause-complete
returns-in-None-Some-clause-complete c =
    let P : Atom → Type 0 = λ a. IsComplete c.args.bindings.now a c.args.index.now
    c.with_last.result.now in
    let place : bound_to c.args.bindings.now c.in-Role.to ≡ Some c.in-None-Some.second = cc in
    subst P (sym c.in-Role.is) (role_at_last c.args.bindings.now c.args.index.now
    c.with_last.result.now c.in-Role.id c.in-Role.from c.in-Role.to c.in-None-Some.second place
    (keeps_then c.args.index.now c.role-in-None-Some.result.now c.with_last.result.now (λ f.
    is_of_role c.in-Role.id f ≡ true) (λ f. element_eq (last_of f) c.in-None-Some.second
    ≡ true) (keeps_members (is_of_role c.in-Role.id) c.args.index.now
    c.role-in-None-Some.result.now c.role-in-None-Some.ensures.members)
    (keeps_filter (λ f. element_eq (last_of f) c.in-None-Some.second)
    c.role-in-None-Some.result.now c.with_last.result.now c.with_last.ensures)))

pub returns-in-None-None-clause-within : goal.returns-in-None-None-clause-within
returns-in-None-None-clause-within c =
    (keeps_members (is_of_role c.in-Role.id) c.args.index.now c.role-in-None-None.result.now
    c.role-in-None-None.ensures.members).within

pub returns-in-None-None-clause-complete : goal.returns-in-None-None-clause-complete
returns-in-None-None-clause-complete c =
    let P : Atom → Type 0 = λ a. IsComplete c.args.bindings.now a c.args.index.now
    c.role-in-None-None.result.now in
    subst P (sym c.in-Role.is) (role_all c.args.bindings.now c.args.index.now
    c.role-in-None-None.result.now c.in-Role.id c.in-Role.from c.in-Role.to
    (keeps_members (is_of_role c.in-Role.id) c.args.index.now c.role-in-None-None.result.now
    c.role-in-None-None.ensures.members))
