use Rattle.dl_syntax.proofs.Growth.{run_stays}
use Rattle.dl_syntax.proofs.growing.extend_run.Goals as goal

pub returns-clause-stays : goal.returns-clause-stays
returns-clause-stays c snapshot is_run =
    run_stays c.extend.result c.args.ontology.now.inclusions snapshot c.args.run.now.items
    c.extend.new.run.items c.args.from c.args.inclusion
    (rw c.inclusions.ensures.same at c.extend.ensures.ok) c.extend.ensures.err is_run
