use Rattle.progression.proofs.NextKept.{table_read, leaves_read}
use Rattle.progression.proofs.advancing.query_tables.Goals as goal

pub node_tables-requires-clause-table : goal.node_tables-requires-clause-table
node_tables-requires-clause-table c =
    table_read c.args.query.now c.nodes.ensures.valid c.args.slots c.args.kept.now c.requires.fits
    c.nodes.result.now c.nodes.ensures.same c.vars.result c.vars.ensures.same

pub node_tables-requires-clause-leaves : goal.node_tables-requires-clause-leaves
node_tables-requires-clause-leaves c =
    leaves_read c.args.query.now c.nodes.ensures.valid c.args.slots c.args.kept.now c.requires.fits
    c.nodes.result.now c.nodes.ensures.same c.vars.result c.vars.ensures.same c.args.leaves.now
    c.requires.leaves
