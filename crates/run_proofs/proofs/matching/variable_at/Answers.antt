use Rattle.std.proofs.Common.{◌∙◌, add-one}
use Rattle.run_proofs.proofs.Assigned.{skip_one}
use Rattle.run_proofs.proofs.matching.variable_at.Goals as goal

pub loop-place-preserved : goal.loop-place-preserved
loop-place-preserved c =
    rw add-one (c.loop-place.invariant ∙ skip_one c.args.variables.now c.args.elements.now
    c.args.number c.loop-place.place c.loop-place-test.true c.requires c.if-known-number.false)
