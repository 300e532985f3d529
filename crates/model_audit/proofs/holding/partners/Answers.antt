-- Answers to the goals of `partners`: the facts of a role with the element at one place.
use Rattle.model_audit.proofs.Lookups.{first_partners, last_partners}
use Rattle.model_audit.proofs.holding.partners.Goals as goal

pub returns-then-role : goal.returns-then-role
returns-then-role c =
    last_partners c.args.index.now c.role.result.now c.with_last.result.now c.args.role.now
    c.args.element
    c.role.ensures.members c.if-role.true c.with_last.ensures

pub returns-else-role : goal.returns-else-role
returns-else-role c =
    first_partners c.args.index.now c.role-else-role.result.now c.with_first.result.now
    c.args.role.now c.args.element
    c.role-else-role.ensures.members c.if-role.false c.with_first.ensures
