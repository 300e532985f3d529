use Rattle.monitor_core.proofs.Example.{are_two, within}
use Rattle.monitor_core.proofs.tests.opened.Goals as goal

pub open-requires : goal.open-requires
open-requires c =
    within c.args.ontology (c.requires.concepts, c.requires.roles, c.requires.individuals)
    c.args.queries.items
    (are_two c.args.queries.items c.requires.many c.requires.vars c.requires.nodes)
