-- Answers to the goals of `is_apart`: a fact shows one element or pair of a side.
use Rattle.std.proofs.Common.{◌≡◌, sym, ◌∙◌, subst}
use Rattle.std.specs.Prelude.{◌↔◌, IsTrue, not, Some}
use Rattle.std.specs.List.{Contains}
use Rattle.dl_syntax.specs.declared.facts.Fact.{Fact}
use Rattle.dl_syntax.specs.declared.ontology.Clash.{Clash}
use Rattle.dl_syntax.specs.Facts.{pair_in}
use Rattle.model_audit.specs.FiniteModels.{IsApart}
use Rattle.model_audit.proofs.Sides.{apart_concepts, apart_roles}
use Rattle.model_audit.proofs.clashes.is_apart.Goals as goal

pub returns-in-Some : goal.returns-in-Some
returns-in-Some c =
    subst (λ (m : Clash). IsTrue (not c.is_member.result)
    ↔ IsApart c.args.index.now m c.args.fact.now) (sym c.in-Concepts.is)
    (apart_concepts c.args.index.now c.args.fact.now c.is_member.result c.in-Concepts.one
    c.in-Concepts.other c.in-Some.element
    (sym c.element_in.ensures ∙ c.in-Some.is) c.is_member.ensures)

pub returns-in-Some-pair_in : goal.returns-in-Some-pair_in
returns-in-Some-pair_in c =
    let is : pair_in c.in-Roles.one c.args.fact.now ≡ Some (
      c.in-Some-pair_in.first,
      c.in-Some-pair_in.second,
    ) = cc in
    subst (λ (m : Clash). IsTrue (not c.has.result) ↔ IsApart c.args.index.now m c.args.fact.now)
    (sym c.in-Roles.is)
    (apart_roles c.args.index.now c.args.fact.now c.has.result c.in-Roles.one c.in-Roles.other
    c.in-Some-pair_in.first
    c.in-Some-pair_in.second is
    (subst (λ (f : Fact). IsTrue c.has.result ↔ Contains c.args.index.now f) c.role_fact.ensures
    c.has.ensures))
