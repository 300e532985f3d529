-- Answers to the goals of `keeps`: a fact shows one element or pair of a left side.
use Rattle.std.proofs.Common.{◌≡◌, sym, ◌∙◌, subst}
use Rattle.std.specs.Prelude.{◌↔◌, IsTrue, Some}
use Rattle.std.specs.List.{Contains}
use Rattle.dl_syntax.specs.declared.facts.Fact.{Fact}
use Rattle.dl_syntax.specs.declared.ontology.Inclusion.{Inclusion}
use Rattle.dl_syntax.specs.Facts.{pair_in}
use Rattle.model_audit.specs.FiniteModels.{Keeps}
use Rattle.model_audit.proofs.Sides.{keeps_concepts, keeps_roles, keeps_qualified}
use Rattle.model_audit.proofs.inclusions.keeps.Goals as goal

pub returns-in-Some : goal.returns-in-Some
returns-in-Some c =
    subst (λ (i : Inclusion). IsTrue c.is_member.result ↔ Keeps c.args.index.now i c.args.fact.now)
    (sym c.in-Concepts.is)
    (keeps_concepts c.args.index.now c.args.fact.now c.is_member.result c.in-Concepts.below
    c.in-Concepts.above
    c.in-Some.element (sym c.element_in.ensures ∙ c.in-Some.is) c.is_member.ensures)

pub returns-in-Some-pair_in : goal.returns-in-Some-pair_in
returns-in-Some-pair_in c =
    let is : pair_in c.in-Roles.below c.args.fact.now ≡ Some (
      c.in-Some-pair_in.first,
      c.in-Some-pair_in.second,
    ) = cc in
    subst (λ (i : Inclusion). IsTrue c.has.result ↔ Keeps c.args.index.now i c.args.fact.now)
    (sym c.in-Roles.is)
    (keeps_roles c.args.index.now c.args.fact.now c.has.result c.in-Roles.below c.in-Roles.above
    c.in-Some-pair_in.first
    c.in-Some-pair_in.second is
    (subst (λ (f : Fact). IsTrue c.has.result ↔ Contains c.args.index.now f) c.role_fact.ensures
    c.has.ensures))

pub returns-in-Some-element_in : goal.returns-in-Some-element_in
returns-in-Some-element_in c =
    subst (λ (i : Inclusion). IsTrue c.has_partner.result
    ↔ Keeps c.args.index.now i c.args.fact.now) (sym c.in-Qualified.is)
    (keeps_qualified c.args.index.now c.args.fact.now c.has_partner.result c.in-Qualified.below
    c.in-Qualified.role
    c.in-Qualified.concept c.in-Some-element_in.element (sym c.element_in-in-Qualified.ensures
    ∙ c.in-Some-element_in.is)
    c.has_partner.ensures)
