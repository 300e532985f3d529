use Rattle.progression.proofs.Tabulating.{Tabulates-filled}
use Rattle.progression.proofs.own.filled.Goals as goal

pub returns-clause-table : goal.returns-clause-table
returns-clause-table c =
    Tabulates-filled c.args.slots c.args.arity (λ v.
    c.args.value) c.in_ok-antichain.antichain c.in_ok-link.link c.args.store.now
    c.intern.new.self c.in_ok-antichain.ensures.minimal c.in_ok-link.ensures.link
    c.in_ok-link.ensures.ok c.fill.result c.fill.ensures.slots c.fill.ensures.arity
    c.fill.ensures.same
