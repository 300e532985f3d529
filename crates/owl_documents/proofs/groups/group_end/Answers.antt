use Rattle.std.proofs.Common.{◌+◌, Ok, ap, ◌∙◌, arith}
use Rattle.owl_documents.specs.declared.groups.GroupStep.TheVariants as step
use Rattle.owl_documents.proofs.GroupLemmas.{group_next, group_open, from_place, next_deep}
use Rattle.owl_documents.proofs.groups.group_end.Goals as goal

pub returns-in-Behind-clause-given : goal.returns-in-Behind-clause-given
returns-in-Behind-clause-given c = λ bytes.
    c.loop-place.invariant.passed bytes
    ∙ group_next bytes c.loop-place.depth c.loop-place.place c.args.tokens.now step.Behind
    c.loop-place-test.true c.in-Behind.ensures
    ∙ ap Ok (from_place bytes (c.loop-place.place + 1) c.args.tokens.now)

pub returns-in-Fault-clause-given : goal.returns-in-Fault-clause-given
returns-in-Fault-clause-given c = λ bytes.
    c.loop-place.invariant.passed bytes
    ∙ group_next bytes c.loop-place.depth c.loop-place.place c.args.tokens.now step.Fault
    c.loop-place-test.true c.in-Fault.ensures

pub returns-clause-given : goal.returns-clause-given
returns-clause-given c = λ bytes. c.loop-place.invariant.passed bytes ∙ group_open bytes
    c.loop-place.depth c.loop-place.place c.args.tokens.now c.loop-place-test.false

pub loop-place-preserved : goal.loop-place-preserved
loop-place-preserved c = record {
  within = omega arith;
  few = omega (arith, next_deep c.loop-place.depth c.in-Inside.next _ c.in-Inside.ensures);
  passed = λ bytes.
      c.loop-place.invariant.passed bytes
      ∙ group_next bytes c.loop-place.depth c.loop-place.place c.args.tokens.now
      (step.Inside c.in-Inside.next) c.loop-place-test.true c.in-Inside.ensures;
}
