use Rattle.std.proofs.Common.{ℕ, List, sym, ◌∙◌, ap, subst}
use Rattle.answer_tables.specs.declared.run.Run.{Run}
use Rattle.answer_tables.specs.Runs.{AreAlike}
use Rattle.answer_tables.specs.Renaming.{AreRenamed}
use Rattle.answer_tables.specs.Table.{IsTable, view_of}
use Rattle.answer_tables.proofs.Renamings.{AreRenamed-alike, IsTable-renamed, view_renamed}
use Rattle.answer_tables.proofs.table.Table.from_parts.Goals as goal

pub invariant_of-result : goal.invariant_of-result
invariant_of-result c =
    let places = c.in_ok-once.once.places.items in
    let first : AreRenamed places c.args.runs.now c.in_ok-runs.runs.items =
    subst (λ (ps : List ℕ). AreRenamed ps c.args.runs.now c.in_ok-runs.runs.items)
    c.as_slice.ensures.value c.in_ok-runs.ensures in
    let alike : AreAlike c.in_ok-runs.runs.items c.in_ok-ranks.ranks =
    subst (λ (rs : List Run). AreAlike rs c.in_ok-ranks.ranks) c.from_runs.ensures
    c.in_ok-ranks.ensures in
    subst (λ (rs : List Run). IsTable c.args.slots c.args.arity c.in_ok-once.once.links.items rs)
    (sym c.in_ok-ranks-2.ensures.ok) (
    IsTable-renamed c.args.slots c.args.arity c.args.links.now c.in_ok-once.once.links.items places
    c.args.runs.now c.in_ok-ranks.ranks c.requires.are c.requires.used
    c.in_ok-once.ensures.distinct c.in_ok-once.ensures.places
    (AreRenamed-alike places c.args.runs.now c.in_ok-runs.runs.items c.in_ok-ranks.ranks first
    alike))

pub returns : goal.returns
returns c =
    let places = c.in_ok-once.once.places.items in
    let first : AreRenamed places c.args.runs.now c.in_ok-runs.runs.items =
    subst (λ (ps : List ℕ). AreRenamed ps c.args.runs.now c.in_ok-runs.runs.items)
    c.as_slice.ensures.value c.in_ok-runs.ensures in
    let alike : AreAlike c.in_ok-runs.runs.items c.in_ok-ranks.ranks =
    subst (λ (rs : List Run). AreAlike rs c.in_ok-ranks.ranks) c.from_runs.ensures
    c.in_ok-ranks.ensures in
    ap (view_of c.args.slots c.args.arity c.in_ok-once.once.links.items)
    c.in_ok-ranks-2.ensures.ok ∙
    view_renamed c.args.slots c.args.arity c.args.links.now c.in_ok-once.once.links.items places
    c.args.runs.now c.in_ok-ranks.ranks c.requires.are c.requires.used
    c.in_ok-once.ensures.distinct c.in_ok-once.ensures.places
    (AreRenamed-alike places c.args.runs.now c.in_ok-runs.runs.items c.in_ok-ranks.ranks first
    alike)
