use Rattle.std.proofs.Common.{arith}
use Rattle.run_proofs.proofs.Steps.{none_taken, one_taken}
use Rattle.run_proofs.proofs.checking.take_steps.Goals as goal

pub take_step-requires : goal.take_step-requires
take_step-requires c = omega (arith, c.loop-step.invariant.short)

pub loop-step-init : goal.loop-step-init
loop-step-init c = none_taken c.args.ontology.now.inclusions c.args.run.now.items c.args.steps.now

pub loop-step-preserved : goal.loop-step-preserved
loop-step-preserved c =
    one_taken c.args.ontology.now.inclusions c.args.run.now.items c.args.steps.now
    c.loop-step.step-index c.loop-step.run.items c.loop-step.invariant _ c.loop-step-test.true _
    c.in_ok-take_step.ensures.run (c.in_ok-take_step.ensures.makes.0 c.if-not-branch.false)
