use Rattle.std.proofs.Common.{List, drop, sym, subst}
use Rattle.dl_syntax.specs.declared.names.IndId.{IndId}
use Rattle.run_proofs.specs.Texts.{individual_text}
use Rattle.run_proofs.specs.Writable.{IsNamed}
use Rattle.run_proofs.proofs.Cutting.{some_left}
use Rattle.run_proofs.proofs.Spread.{HasRead, stuck, one_read}
use Rattle.run_proofs.proofs.Spelled.{individual_free}
use Rattle.run_proofs.proofs.listing.read_individuals.Goals as goal

pub returns-in_default : goal.returns-in_default
returns-in_default c =
    stuck (individual_text c.args.ontology.now.individuals)
    (IsNamed c.args.ontology.now) c.args.text.now c.loop-place.row.items
    (drop c.loop-place.place c.args.text.now) c.loop-place.invariant.read
    (some_left c.args.text.now c.loop-place.place c.loop-place-test.true) c.in_default.ensures

pub loop-place-preserved : goal.loop-place-preserved
loop-place-preserved c = record {
  within = c.in-Some.ensures.2;
  read = subst (λ (is : List IndId).
      HasRead (individual_text c.args.ontology.now.individuals)
      (IsNamed c.args.ontology.now) c.args.text.now is
      (drop c.in-Some.end c.args.text.now)) (sym c.in_ok-push.ensures.items)
      (one_read (individual_text c.args.ontology.now.individuals)
      (IsNamed c.args.ontology.now)
      (individual_free c.args.ontology.now c.count-count.ensures.sound) c.args.text.now
      c.loop-place.row.items (drop c.loop-place.place c.args.text.now)
      (drop c.in-Some.end c.args.text.now) c.in-Some.individual c.loop-place.invariant.read
      c.in-Some.ensures.0);
}
