use Rattle.std.proofs.Common.{ℕ, List, sym, ◌∙◌, ap, subst}
use Rattle.answer_tables.specs.declared.run.Run.{Run}
use Rattle.answer_tables.specs.Renaming.{AreRenamed}
use Rattle.answer_tables.specs.Table.{IsTable, view_of}
use Rattle.answer_tables.proofs.Renamings.{IsTable-renamed, view_renamed}
use Rattle.answer_tables.proofs.table.Table.from_aligned.Goals as goal

pub invariant_of-result : goal.invariant_of-result
invariant_of-result c =
    subst (λ (rs : List Run). IsTable c.args.slots c.args.arity c.in_ok-once.once.links.items rs)
    (sym c.in_ok-ranks-2.ensures.ok) (
    IsTable-renamed c.args.slots c.args.arity c.args.links.now c.in_ok-once.once.links.items
    c.in_ok-once.once.places.items c.args.ranks c.in_ok-ranks.ranks c.requires.are
    c.requires.used c.in_ok-once.ensures.distinct c.in_ok-once.ensures.places
    (subst (λ (places : List ℕ). AreRenamed places c.args.ranks c.in_ok-ranks.ranks)
    c.as_slice.ensures.value c.in_ok-ranks.ensures))

pub returns : goal.returns
returns c =
    ap (view_of c.args.slots c.args.arity c.in_ok-once.once.links.items)
    c.in_ok-ranks-2.ensures.ok ∙
    view_renamed c.args.slots c.args.arity c.args.links.now c.in_ok-once.once.links.items
    c.in_ok-once.once.places.items c.args.ranks c.in_ok-ranks.ranks c.requires.are
    c.requires.used c.in_ok-once.ensures.distinct c.in_ok-once.ensures.places
    (subst (λ (places : List ℕ). AreRenamed places c.args.ranks c.in_ok-ranks.ranks)
    c.as_slice.ensures.value c.in_ok-ranks.ensures)
