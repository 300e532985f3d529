use Rattle.std.proofs.Common.{List, drop, sym, subst}
use Rattle.dl_syntax.specs.declared.facts.Element.{Element}
use Rattle.run_proofs.specs.Texts.{element_text, IsWritable}
use Rattle.run_proofs.proofs.Cutting.{some_left}
use Rattle.run_proofs.proofs.Spread.{HasRead, stuck, one_read}
use Rattle.run_proofs.proofs.Spelled.{element_free}
use Rattle.run_proofs.proofs.listing.read_elements.Goals as goal

pub returns-in_default : goal.returns-in_default
returns-in_default c =
    stuck (element_text c.args.ontology.now.individuals)
    (IsWritable c.args.ontology.now.individuals) c.args.text.now c.loop-place.elements.items
    (drop c.loop-place.place c.args.text.now) c.loop-place.invariant.read
    (some_left c.args.text.now c.loop-place.place c.loop-place-test.true) c.in_default.ensures

pub loop-place-preserved : goal.loop-place-preserved
loop-place-preserved c = record {
  within = c.in-Some.ensures.2;
  read = subst (λ (es : List Element).
      HasRead (element_text c.args.ontology.now.individuals)
      (IsWritable c.args.ontology.now.individuals) c.args.text.now es
      (drop c.in-Some.end c.args.text.now)) (sym c.in_ok-push.ensures.items)
      (one_read (element_text c.args.ontology.now.individuals)
      (IsWritable c.args.ontology.now.individuals)
      (element_free c.args.ontology.now c.count-count.ensures.sound) c.args.text.now
      c.loop-place.elements.items (drop c.loop-place.place c.args.text.now)
      (drop c.in-Some.end c.args.text.now) c.in-Some.element c.loop-place.invariant.read
      c.in-Some.ensures.0);
}
