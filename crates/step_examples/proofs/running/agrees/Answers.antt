use Rattle.std.proofs.Common.{[], true, false, get_or, take, sym, ◌∙◌}
use Rattle.std.proofs.lemmas.List.{take_more}
use Rattle.step_examples.proofs.running.agrees.Goals as goal

pub loop-count-init : goal.loop-count-init
loop-count-init c = record {
  fits = c.start-kept.ensures.fits c.args.query.now 1;
  stands = λ plain. c.start-kept.ensures.stands [] 1 c.args.query.now true;
}

pub loop-count-preserved : goal.loop-count-preserved
loop-count-preserved c =
    let facts = c.args.facts.now in
    let count = c.loop-count.count in record {
      fits = c.in_ok-next.ensures.fits;
      stands = λ plain. (c.in_ok-next.ensures.agrees (take count facts)
          (get_or facts count (false, false))
          (take_more facts count (false, false) c.loop-count-test.true) plain
          (c.loop-count.invariant.stands plain)).0;
    }

pub returns-then-not-same : goal.returns-then-not-same
returns-then-not-same c =
    λ plain.
    let facts = c.args.facts.now in
    let count = c.loop-count.count in
    sym c.if-not-same.true ∙ (c.in_ok-next.ensures.agrees (take count facts)
    (get_or facts count (false, false))
    (take_more facts count (false, false) c.loop-count-test.true) plain
    (c.loop-count.invariant.stands plain)).1
