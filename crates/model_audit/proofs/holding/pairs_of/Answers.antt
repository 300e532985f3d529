-- Answers to the goals of `pairs_of`: the facts of a role.
use Rattle.model_audit.proofs.Lookups.{role_members}
use Rattle.model_audit.proofs.holding.pairs_of.Goals as goal

pub returns : goal.returns
returns c = role_members c.args.index.now c.role.result.now c.args.role.now c.role.ensures.members
