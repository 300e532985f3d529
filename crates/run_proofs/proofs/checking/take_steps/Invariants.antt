use Rattle.run_proofs.proofs.Steps.{HasTaken}
use Rattle.run_proofs.proofs.checking.take_steps.Given as goal

abbrev pub invariant-loop-step : goal.invariant-loop-step
invariant-loop-step l = HasTaken l.ontology.inclusions l.fn.run.items l.steps l.step-index
    l.run.items
