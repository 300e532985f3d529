use Rattle.std.proofs.Common.{◌≡◌, ℕ, List, take, ◌∙◌, subst, arith}
use Rattle.std.proofs.lemmas.List.{take_all}
use Rattle.answer_tables.specs.Table.{Antichains}
use Rattle.monitor_core.specs.Keeping.{AddsAntichains}
use Rattle.monitor_core.proofs.Storing.{HasEntry, adds_entry}
use Rattle.monitor_core.proofs.state.add_kept.Goals as goal

pub loop-entry-preserved : goal.loop-entry-preserved
loop-entry-preserved c =
    adds_entry c.as_slice-entries.result.now c.args.links.now.items c.loop-entry.links.items
    c.add_links.new.links.items c.loop-entry.entry-index c.entry-item.result
    c.loop-entry-test.true c.entry-item.is c.loop-entry.invariant c.in_ok-add_links.ensures

pub returns : goal.returns
returns c =
    let entries = c.as_slice-entries.result.now in
    let all : take c.loop-entry.entry-index entries ≡ c.args.kept.now.tables.items =
    take_all c.loop-entry.entry-index entries
    (omega (arith, c.loop-entry-test.false)) ∙ c.as_slice-entries.ensures.value in
    subst (λ (es : List (ℕ × Antichains)).
    AddsAntichains (HasEntry es) c.args.links.now.items c.loop-entry.links.items) all
    c.loop-entry.invariant
