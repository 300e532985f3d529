use Rattle.std.proofs.Common.{sym, subst}
use Rattle.perfect_ref.specs.Plain.{Encoded, Reachable, PlainReachable, Lists}
use Rattle.perfect_ref.proofs.Reached.{Lists-filters}
use Rattle.perfect_ref.proofs.rewriting.Rewriter.parts.Goals as goal

pub returns-clause-whole : goal.returns-clause-whole
returns-clause-whole c =
    subst (λ (o : Encoded). Lists (PlainReachable o c.args.cq.now) c.in_ok-whole.whole.items)
    c.self.view_is
    (Lists-filters c.self.inside.roles c.self.inside.rules c.args.cq.now c.args.found.keys
    c.in_ok-whole.whole.items
    (subst (λ (o : Encoded). Lists (Reachable o c.args.cq.now) c.args.found.keys)
    (sym c.self.view_is) c.requires.found) c.in_ok-whole.ensures)
