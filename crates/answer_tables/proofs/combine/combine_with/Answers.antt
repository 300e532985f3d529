use Rattle.std.proofs.Common.{ℕ, List, sym, ◌∙◌, ap, subst}
use Rattle.std.proofs.lemmas.Result.{IfOk-weaker}
use Rattle.answer_tables.specs.Table.{Antichains, view_of}
use Rattle.answer_tables.specs.Combining.{test_of, AreCombinedWith, LinksAreIn}
use Rattle.answer_tables.proofs.Combinations.{links_are_in}
use Rattle.answer_tables.proofs.Constants.{AreRuns-other, each_with}
use Rattle.answer_tables.proofs.combine.combine_with.Goals as goal

pub returns-clause-each : goal.returns-clause-each
returns-clause-each c =
    let slots = c.table.inside.slots in
    let arity = c.table.inside.arity in
    let own = c.table.inside.links.items in
    let links = c.in_ok-links.links.items in
    let runs = c.table.inside.ranks.value in
    let test = test_of c.args.operation in
    let combined : AreCombinedWith test own c.args.other.now links =
    subst (λ (l : List (List ℕ)). AreCombinedWith test l c.args.other.now links)
    c.as_slice.ensures.value c.in_ok-links.ensures.links in
    IfOk-weaker c.from_ranking.result _ _ (λ (t : Antichains) is.
    each_with slots arity own links runs test c.args.other.now c.args.table.now t
    c.table.invariant combined c.table.view_is
    (is ∙ ap (λ (l : List (List ℕ)). view_of slots arity l runs) c.as_slice-2.ensures.value))
    c.from_ranking.ensures

pub returns-clause-stored : goal.returns-clause-stored
returns-clause-stored c =
    let slots = c.table.inside.slots in
    let arity = c.table.inside.arity in
    let own = c.table.inside.links.items in
    let links = c.in_ok-links.links.items in
    let runs = c.table.inside.ranks.value in
    let test = test_of c.args.operation in
    let combined : AreCombinedWith test own c.args.other.now links =
    subst (λ (l : List (List ℕ)). AreCombinedWith test l c.args.other.now links)
    c.as_slice.ensures.value c.in_ok-links.ensures.links in
    IfOk-weaker c.from_ranking.result _ _ (λ (t : Antichains) is.
    subst (λ (v : Antichains). LinksAreIn v c.combined_each.new.store)
    (sym (is ∙ ap (λ (l : List (List ℕ)). view_of slots arity l runs) c.as_slice-2.ensures.value))
    (links_are_in slots arity links runs c.combined_each.new.store
    (AreRuns-other slots arity own links runs c.table.invariant combined.many)
    c.in_ok-links.ensures.stored)) c.from_ranking.ensures
