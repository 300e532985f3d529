-- Answers to the goals of `contain_by`: what the frozen query tells of containment.
use Rattle.std.proofs.lemmas.Bool.{OnTrue_at, OnFalse_at}
use Rattle.contain_test.proofs.Showing.{frozen_as, over_frozen, matched_frozen, decided_by}
use Rattle.contain_test.proofs.deciding.contain_by.Goals as goal

pub returns-then-branch : goal.returns-then-branch
returns-then-branch c = record {
  exact =
      let is = frozen_as c.args.ontology.now c.args.first.now c.count.result
      c.in_ok-frozen.frozen.facts
      c.in_ok-frozen.frozen.row c.count.ensures.count c.in_ok-frozen.ensures.facts
      c.in_ok-frozen.ensures.row in
      decided_by c.args.ontology.now c.args.first.now c.args.union.now _ c.requires.first
      c.count.ensures.sound.inclusions_declared
      (matched_frozen c.args.ontology.now c.args.first.now c.args.union.now
      c.in_ok-frozen.frozen.facts
      c.in_ok-frozen.frozen.row is
      (OnTrue_at c.if-branch.true
      (c.in_ok-is_matched.ensures.matched c.args.ontology.now c.requires.clashes
      (over_frozen c.args.ontology.now c.args.first.now c.in_ok-frozen.frozen.facts
      c.in_ok-frozen.frozen.row is
      c.requires.first c.count.ensures.sound.inclusions_declared))));
}

pub returns : goal.returns
returns c = record {
  exact =
      let is = frozen_as c.args.ontology.now c.args.first.now c.count.result
      c.in_ok-frozen.frozen.facts
      c.in_ok-frozen.frozen.row c.count.ensures.count c.in_ok-frozen.ensures.facts
      c.in_ok-frozen.ensures.row in
      decided_by c.args.ontology.now c.args.first.now c.args.union.now _ c.requires.first
      c.count.ensures.sound.inclusions_declared (
        is,
        OnFalse_at c.if-branch.false
            (c.in_ok-is_matched.ensures.unmatched c.args.ontology.now c.requires.clashes
            (over_frozen c.args.ontology.now c.args.first.now c.in_ok-frozen.frozen.facts
            c.in_ok-frozen.frozen.row is
            c.requires.first c.count.ensures.sound.inclusions_declared)),
      );
}
