use Rattle.monitor_core.proofs.Restoring.{unused}
use Rattle.checkpoint_state.proofs.Example.{one_within}
use Rattle.checkpoint_state.proofs.tests.opened.Goals as goal

pub open-requires : goal.open-requires
open-requires c =
    one_within c.args.ontology c.args.queries.items
    (c.requires.concepts, c.requires.roles, c.requires.individuals) c.requires.many
    c.requires.vars c.requires.nodes

pub returns-in-Ok-clause-none : goal.returns-in-Ok-clause-none
returns-in-Ok-clause-none c =
    (unused c.in-Ok.monitor c.kept.ensures.sound c.in-Ok.ensures.stands).none
