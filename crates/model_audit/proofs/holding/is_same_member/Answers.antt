-- Answers to the goals of `is_same_member`: equal elements are one.
use Rattle.std.proofs.Common.{◌≡◌, sym, ◌∙◌, ap, rules}
use Rattle.std.specs.Prelude.{Some}
use Rattle.dl_syntax.specs.declared.facts.Element.{Element}
use Rattle.dl_syntax.specs.Exact.{IsExact}
use Rattle.dl_syntax.specs.contracts.facts.ElementPartialEq.TheImpl as element
use Rattle.dl_syntax.specs.Facts.{element_in}
use Rattle.dl_syntax.proofs.FactLaws.{In-element_in}
use Rattle.model_audit.proofs.holding.is_same_member.Goals as goal

elements_exact : IsExact ((element.ghosts).eq)
elements_exact = λ x y. search rules

pub returns-in-Some-Some : goal.returns-in-Some-Some
returns-in-Some-Some c = λ yes.
    let first : element_in c.args.basic.now c.args.one.now ≡ Some c.in-Some-Some.first =
    sym c.element_in.ensures ∙ c.in-Some-Some.is-0 in
    let second : element_in c.args.basic.now c.args.other.now ≡ Some c.in-Some-Some.second =
    sym c.element_in-2.ensures ∙ c.in-Some-Some.is-1 in
    let same : c.in-Some-Some.first ≡ c.in-Some-Some.second =
    (elements_exact c.in-Some-Some.first c.in-Some-Some.second).0 (sym c.eq.ensures ∙ yes) in (
      c.in-Some-Some.first,
      In-element_in c.args.basic.now c.args.one.now c.in-Some-Some.first first,
      In-element_in c.args.basic.now c.args.other.now c.in-Some-Some.first
          (second ∙ ap (λ (e : Element). Some e) (sym same)),
    )
