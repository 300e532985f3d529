use Rattle.std.proofs.Common.{◌∷◌, arith}
use Rattle.run_proofs.specs.Texts.{element_text}
use Rattle.run_proofs.proofs.PrintedTexts.{flat_more, flat_all, spaced}
use Rattle.run_proofs.proofs.printing.append_elements.Goals as goal

pub loop-element-preserved : goal.loop-element-preserved
loop-element-preserved c =
    flat_more (λ e. 32 ∷ element_text c.args.ontology.now.individuals e) c.args.elements.now
    c.loop-element.element-index _ _ _ _
    c.loop-element-test.true c.loop-element.invariant
    (spaced _ _ _ _ c.in_ok-extend_from_slice.ensures.items c.in_ok-append_element.ensures)

pub returns : goal.returns
returns c =
    flat_all (λ e. 32 ∷ element_text c.args.ontology.now.individuals e) c.args.elements.now
    c.loop-element.element-index _ _ (omega arith)
    c.loop-element.invariant
