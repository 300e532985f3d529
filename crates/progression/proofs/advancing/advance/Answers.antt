use Rattle.std.proofs.Common.{List, subst}
use Rattle.answer_tables.specs.Table.{Antichains}
use Rattle.progression.specs.Kept.{AreRootRows}
use Rattle.progression.proofs.NextKept.{Fits-next, Advances-next, AreRows-root, stored_next}
use Rattle.progression.proofs.NextKept.{is_first}
use Rattle.progression.proofs.advancing.advance.Goals as goal

pub returns-clause-fits : goal.returns-clause-fits
returns-clause-fits c =
    Fits-next c.args.query.now c.query_tables.ensures.valid c.args.slots.kept c.args.kept.now
    c.requires.fits _ (is_first c.args.kept.now.count) c.args.leaves.now
    c.query_tables.new.store c.in_ok-tables.tables.items c.in_ok-tables.ensures.tables _
    c.in_ok-tables-2.ensures c.saturating_add-count.ensures

pub returns-clause-rows : goal.returns-clause-rows
returns-clause-rows c = AreRows-root c.args.query.now c.args.slots.answered _ c.in_ok-rows.rows
    c.in_ok-rows.ensures

pub returns-clause-advances : goal.returns-clause-advances
returns-clause-advances c inclusions history snapshot stands answers =
    let root : AreRootRows c.args.query.now c.args.slots.answered c.in_ok-tables.tables.items
    c.in_ok-rows.rows = subst (λ (ts : List Antichains).
    AreRootRows c.args.query.now c.args.slots.answered ts c.in_ok-rows.rows)
    c.as_slice.ensures.value
    c.in_ok-rows.ensures in
    Advances-next c.args.query.now c.query_tables.ensures.valid c.args.slots.kept c.args.kept.now
    c.requires.fits _ (is_first c.args.kept.now.count) c.args.leaves.now
    c.query_tables.new.store c.in_ok-tables.tables.items c.in_ok-tables.ensures.tables _
    c.in_ok-tables-2.ensures c.saturating_add-count.ensures inclusions history snapshot stands
    answers c.args.slots.answered c.requires.within root.weak root.small root.is_weak
    c.in_ok-rows.rows.rows root.rising root.member

pub returns-clause-stored : goal.returns-clause-stored
returns-clause-stored c = stored_next _ _ _ _ _ _ _ c.in_ok-tables.tables.items
    c.in_ok-tables-2.tables.items c.in_ok-tables.ensures.tables c.in_ok-tables-2.ensures
