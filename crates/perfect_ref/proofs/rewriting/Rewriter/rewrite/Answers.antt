use Rattle.std.proofs.Common.{sym, subst}
use Rattle.perfect_ref.specs.Plain.{Encoded, Reachable, PlainReachable, Lists}
use Rattle.perfect_ref.proofs.Reached.{Lists-filters}
use Rattle.perfect_ref.proofs.rewriting.Rewriter.rewrite.Goals as goal

pub returns-in-Ok-plain_members-clause-members : goal.returns-in-Ok-plain_members-clause-members
returns-in-Ok-plain_members-clause-members c =
    subst (λ (o : Encoded). Lists (PlainReachable o c.args.cq.now)
    c.in-Ok-plain_members.members.items) c.self.view_is
    (Lists-filters c.self.inside.roles c.self.inside.rules c.args.cq.now c.in-Ok.found.keys
    c.in-Ok-plain_members.members.items
    (subst (λ (o : Encoded). Lists (Reachable o c.args.cq.now) c.in-Ok.found.keys)
    (sym c.self.view_is) c.in-Ok.ensures.found) c.in-Ok-plain_members.ensures)
