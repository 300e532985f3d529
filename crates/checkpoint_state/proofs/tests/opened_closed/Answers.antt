use Rattle.checkpoint_state.proofs.Example.{one_within}
use Rattle.checkpoint_state.proofs.tests.opened_closed.Goals as goal

pub open_closed-requires : goal.open_closed-requires
open_closed-requires c =
    one_within c.args.ontology c.args.queries.items
    (c.requires.concepts, c.requires.roles, c.requires.individuals) c.requires.many
    c.requires.vars c.requires.nodes
