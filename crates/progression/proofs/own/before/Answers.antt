use Rattle.std.proofs.Common.{◌≡◌, sym, subst, List, ℕ}
use Rattle.formula_store.specs.Interned.{Extends}
use Rattle.answer_tables.specs.Table.{Antichains}
use Rattle.progression.proofs.Tabulating.{Tabulates-substituted, Tabulates-absent, kept_table-here}
use Rattle.progression.proofs.Tabulating.{kept_table-past}
use Rattle.progression.proofs.own.before.Goals as goal

pub returns-then-entry-place-clause-table : goal.returns-then-entry-place-clause-table
returns-then-entry-place-clause-table c =
    let i = c.loop-entry.entry-index in
    Tabulates-substituted c.args.slots c.args.arity c.args.kept.now c.args.place c.args.values.now
    c.substituted.new.store c.entry-item.result.1 c.substituted.result
    (kept_table-here c.args.kept.now i c.args.place c.entry-item.result c.loop-entry-test.true
    c.entry-item.is c.if-entry-place.true c.loop-entry.invariant.rest)
    (subst (λ (e : ℕ × Antichains). (e.1.slots ≡ c.args.slots)
    × (e.1.arity ≡ c.args.arity)) (sym c.entry-item.is)
    (c.requires.kept i c.entry-item.result c.loop-entry-test.true)) c.substituted.ensures.slots
    c.substituted.ensures.arity c.substituted.ensures.each c.substituted.ensures.stored

pub returns-then-entry-place-clause-grown : goal.returns-then-entry-place-clause-grown
returns-then-entry-place-clause-grown c =
    subst (λ (s : List (List ℕ)). Extends s c.substituted.new.store) c.loop-entry.invariant.store
    c.substituted.ensures.grown

pub returns-clause-table : goal.returns-clause-table
returns-clause-table c =
    Tabulates-absent c.args.slots c.args.arity c.args.kept.now c.args.place c.args.values.now
    c.filled.new.store c.filled.result
    (kept_table-past c.args.kept.now c.loop-entry.entry-index c.args.place c.loop-entry-test.false
    c.loop-entry.invariant.rest) c.filled.ensures.table

pub returns-clause-grown : goal.returns-clause-grown
returns-clause-grown c = subst (λ (s : List (List ℕ)).
    Extends s c.filled.new.store) c.loop-entry.invariant.store c.filled.ensures.grown
