use Rattle.std.proofs.Common.{◌^◌, ◌≤◌, ℕ, List, length, sym, ◌∙◌, ap, subst}
use Rattle.std.proofs.lemmas.Result.{IfOk-weaker}
use Rattle.answer_tables.specs.declared.align.Joint.{Joint}
use Rattle.answer_tables.specs.Table.{Antichains, AreUsed, view_of}
use Rattle.answer_tables.specs.Combining.{LinksAreIn}
use Rattle.answer_tables.specs.Substituting.{AreSubstituted}
use Rattle.answer_tables.proofs.Combinations.{links_are_in}
use Rattle.answer_tables.proofs.Substitutions.{AreRuns-substituted, AreUsed-substituted}
use Rattle.answer_tables.proofs.Substitutions.{each_substituted}
use Rattle.answer_tables.proofs.substitute.substitute_ranks.Goals as goal

pub from_aligned-requires-clause-used : goal.from_aligned-requires-clause-used
from_aligned-requires-clause-used c =
    let table : Antichains = c.args.table.now in
    let values = c.args.values.now in
    let runs = c.in_ok-aligned.aligned.ranks in
    let joints = c.in_ok-aligned.aligned.joints.items in
    let links = c.in_ok-links.links.items in
    let few : table.slots ^ table.arity ≤ 2 ^ 60 =
    subst (λ (v : Antichains). v.slots ^ v.arity ≤ 2 ^ 60) c.table.view_is
    c.table.invariant.are.few in
    let are : AreSubstituted table.slots table.arity table values joints links =
    subst (λ (js : List Joint). AreSubstituted table.slots table.arity table values js links)
    c.as_slice.ensures.value c.in_ok-links.ensures.links in
    let used : AreUsed (table.slots ^ table.arity) (length links) runs =
    AreUsed-substituted table.slots table.arity table values runs joints links
    c.in_ok-aligned.ensures few are in
    let here : AreUsed (c.table.inside.slots ^ c.table.inside.arity) (length links) runs =
    subst (λ (v : Antichains). AreUsed (v.slots ^ v.arity) (length links) runs)
    (sym c.table.view_is) used in
    subst (λ (l : List (List ℕ)). AreUsed (c.table.inside.slots ^ c.table.inside.arity) (length l)
    runs) (sym c.as_slice-2.ensures.value) here

pub returns-clause-each : goal.returns-clause-each
returns-clause-each c =
    let table : Antichains = c.args.table.now in
    let values = c.args.values.now in
    let runs = c.in_ok-aligned.aligned.ranks in
    let joints = c.in_ok-aligned.aligned.joints.items in
    let links = c.in_ok-links.links.items in
    let few : table.slots ^ table.arity ≤ 2 ^ 60 =
    subst (λ (v : Antichains). v.slots ^ v.arity ≤ 2 ^ 60) c.table.view_is
    c.table.invariant.are.few in
    let are : AreSubstituted table.slots table.arity table values joints links =
    subst (λ (js : List Joint). AreSubstituted table.slots table.arity table values js links)
    c.as_slice.ensures.value c.in_ok-links.ensures.links in
    IfOk-weaker c.from_aligned.result _ _ (λ (t : Antichains) is tuple tup.
    each_substituted table.slots table.arity table values runs joints links
    c.in_ok-aligned.ensures few are t
    (is ∙ ap (λ (l : List (List ℕ)). view_of c.table.inside.slots c.table.inside.arity l runs)
    c.as_slice-2.ensures.value ∙ ap (λ (v : Antichains).
    view_of v.slots v.arity links runs) c.table.view_is) tuple tup) c.from_aligned.ensures

pub returns-clause-stored : goal.returns-clause-stored
returns-clause-stored c =
    let table : Antichains = c.args.table.now in
    let values = c.args.values.now in
    let runs = c.in_ok-aligned.aligned.ranks in
    let joints = c.in_ok-aligned.aligned.joints.items in
    let links = c.in_ok-links.links.items in
    let few : table.slots ^ table.arity ≤ 2 ^ 60 =
    subst (λ (v : Antichains). v.slots ^ v.arity ≤ 2 ^ 60) c.table.view_is
    c.table.invariant.are.few in
    let are : AreSubstituted table.slots table.arity table values joints links =
    subst (λ (js : List Joint). AreSubstituted table.slots table.arity table values js links)
    c.as_slice.ensures.value c.in_ok-links.ensures.links in
    IfOk-weaker c.from_aligned.result _ _ (λ (t : Antichains) is.
    subst (λ (v : Antichains). LinksAreIn v c.substituted_links.new.store)
    (sym (is ∙ ap (λ (l : List (List ℕ)). view_of c.table.inside.slots c.table.inside.arity l runs)
    c.as_slice-2.ensures.value ∙ ap (λ (v : Antichains).
    view_of v.slots v.arity links runs) c.table.view_is))
    (links_are_in table.slots table.arity links runs c.substituted_links.new.store
    (AreRuns-substituted table.slots table.arity table values runs joints links
    c.in_ok-aligned.ensures few are) c.in_ok-links.ensures.stored)) c.from_aligned.ensures
