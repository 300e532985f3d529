use Rattle.std.proofs.Common.{arith}
use Rattle.std.specs.Prelude.{slice_index}
use Rattle.answer_tables.proofs.Renamings.{Mapping-step, AreRenamed-end}
use Rattle.answer_tables.proofs.renaming.renamed.Goals as goal

pub loop-run-preserved : goal.loop-run-preserved
loop-run-preserved c = Mapping-step (slice_index c.args.places.now) c.args.runs.now
    c.loop-run.new.items _ c.loop-run.run-index c.loop-run.invariant (omega arith)
    c.in_ok-extend.ensures.ok

pub returns : goal.returns
returns c = AreRenamed-end c.args.places.now c.args.runs.now c.loop-run.new.items
    c.loop-run.run-index c.requires.named c.loop-run.invariant (let past = c.loop-run-test.false in
    omega (arith, past))
