use Rattle.std.proofs.Common.{◌^◌}
use Rattle.antichains.specs.Sets.{is_inside}
use Rattle.progression.proofs.Tabulating.{Tabulates-filled}
use Rattle.progression.proofs.own.granted.Goals as goal

pub returns-clause-table : goal.returns-clause-table
returns-clause-table c =
    Tabulates-filled c.args.slots c.args.arity (is_inside (2 ^ c.args.number))
    c.in_ok-antichain.antichain c.in_ok-link.link c.args.store.now c.intern.new.self
    c.in_ok-antichain.ensures.minimal c.in_ok-link.ensures.link c.in_ok-link.ensures.ok
    c.fill.result c.fill.ensures.slots c.fill.ensures.arity c.fill.ensures.same
