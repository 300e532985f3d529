use Rattle.std.proofs.Common.{ℕ, List, subst}
use Rattle.answer_tables.specs.Renaming.{AreRenamed}
use Rattle.answer_tables.proofs.Renamings.{IsTable-renamed, view_renamed}
use Rattle.answer_tables.proofs.table.Table.from_ranking.Goals as goal

pub invariant_of-result : goal.invariant_of-result
invariant_of-result c =
    IsTable-renamed c.args.slots c.args.arity c.args.links.now c.in_ok-once.once.links.items
    c.in_ok-once.once.places.items c.args.ranks.now.value c.in_ok-ranks.ranks.value
    c.requires.are c.requires.used c.in_ok-once.ensures.distinct c.in_ok-once.ensures.places
    (subst (λ (places : List ℕ). AreRenamed places c.args.ranks.now.value c.in_ok-ranks.ranks.value)
    c.as_slice.ensures.value c.in_ok-ranks.ensures)

pub returns : goal.returns
returns c =
    view_renamed c.args.slots c.args.arity c.args.links.now c.in_ok-once.once.links.items
    c.in_ok-once.once.places.items c.args.ranks.now.value c.in_ok-ranks.ranks.value
    c.requires.are c.requires.used c.in_ok-once.ensures.distinct c.in_ok-once.ensures.places
    (subst (λ (places : List ℕ). AreRenamed places c.args.ranks.now.value c.in_ok-ranks.ranks.value)
    c.as_slice.ensures.value c.in_ok-ranks.ensures)
