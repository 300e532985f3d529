use Rattle.std.proofs.Common.{ℕ, List, length, sym, ◌∙◌, ap, subst}
use Rattle.answer_tables.specs.Table.{AreRuns}
use Rattle.answer_tables.proofs.Combinations.{links_are_in}
use Rattle.answer_tables.proofs.Constants.{AreRuns-other}
use Rattle.answer_tables.proofs.substitute.stored_table.Goals as goal

pub returns-clause-stored : goal.returns-clause-stored
returns-clause-stored c =
    let slots = c.table.inside.slots in
    let arity = c.table.inside.arity in
    let links = c.in_ok-links.links.items in
    let runs = c.table.inside.ranks.value in
    let many = ap (λ (xs : List (List ℕ)).
    length xs) (c.in_ok-links.ensures.same ∙ c.as_slice.ensures.value) in
    let are : AreRuns slots arity links runs =
    AreRuns-other slots arity c.table.inside.links.items links runs c.table.invariant many in
    links_are_in slots arity links c.in_ok-ranks.ranks.value c.stored_links.new.store
    (subst (AreRuns slots arity links) (sym c.in_ok-ranks.ensures) are)
    c.in_ok-links.ensures.stored
