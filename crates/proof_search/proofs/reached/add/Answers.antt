use Rattle.std.proofs.Common.{refl}
use Rattle.dl_syntax.specs.contracts.queries.CqPartialEq.TheImpl as cq
use Rattle.perfect_ref.proofs.Collected.{cq_exact}
use Rattle.proof_search.proofs.Growing.{grows_insert, was_there, was_absent}
use Rattle.proof_search.proofs.reached.add.Goals as goal

pub returns-then-not-is_new : goal.returns-then-not-is_new
returns-then-not-is_new c = λ inclusions before at leads.
    grows_insert inclusions c.args.reached.now.found.keys _ c.args.reached.now.links.items
    c.args.reached.now.links.items ((cq.ghosts).eq) cq_exact c.args.cq before c.args.link at leads
    c.in_ok-is_new.ensures.keys (λ there. refl)
    (λ absent. was_there _ _ c.in_ok-is_new.ensures.added c.if-not-is_new.true absent)

pub returns : goal.returns
returns c = λ inclusions before at leads.
    grows_insert inclusions c.args.reached.now.found.keys _ c.args.reached.now.links.items
    c.push.new.self.items ((cq.ghosts).eq) cq_exact c.args.cq before c.args.link at leads
    c.in_ok-is_new.ensures.keys
    (λ there. was_absent _ _ c.in_ok-is_new.ensures.added c.if-not-is_new.false there)
    (λ absent. c.in_ok-push.ensures.items)
