use Rattle.std.proofs.Common.{sym, subst}
use Rattle.checkpoint_reader.specs.Progress.{IsLineFault}
use Rattle.checkpoint_reader.proofs.Sections.{query_bad, query_step}
use Rattle.checkpoint_reader.proofs.nodes.read_query.Goals as goal

pub returns-in_default-clause-fault : goal.returns-in_default-clause-fault
returns-in_default-clause-fault c =
    subst (IsLineFault c.args.job.now) (sym c.fault.ensures)
    (query_bad c.args.job.now c.args.draft.now c.args.query.now c.in_ok-asked.asked
    c.in_ok-asked.ensures c.requires.next c.args.place c.requires.reached c.in_default.ensures)

pub read_nodes-requires-clause-reached : goal.read_nodes-requires-clause-reached
read_nodes-requires-clause-reached c =
    query_step c.args.job.now c.args.draft.now c.args.query.now c.in_ok-asked.asked
    c.in_ok-asked.ensures c.requires.next c.args.place c.in-Some.next c.requires.reached
    c.in-Some.ensures
