use Rattle.proof_search.proofs.Walking.{one_step}
use Rattle.proof_search.proofs.walk.take_step.Goals as goal

pub returns-clause-steps : goal.returns-clause-steps
returns-clause-steps c = λ facts some has.
    one_step c.args.ontology.now facts c.args.walk.now.run.items c.extend_run.new.run.items
    c.args.walk.now.steps.items c.push.new.self.items c.args.from.now
    (record { from = c.place_of-from.result; inclusion = c.args.number })
    (rw c.as_slice.ensures.value at c.place_of-from.ensures) c.in_ok-extend_run.ensures.ok
    c.in_ok-push.ensures.items some has
