use Rattle.std.proofs.Common.{◌^◌, ℕ, List, length, sym, ◌∙◌, ap, subst}
use Rattle.std.proofs.lemmas.Result.{IfOk-weaker}
use Rattle.answer_tables.specs.declared.run.Run.{Run}
use Rattle.answer_tables.specs.declared.align.Joint.{Joint}
use Rattle.answer_tables.specs.Joint.{IsAligned}
use Rattle.answer_tables.specs.Table.{Antichains, AreRuns, AreUsed, view_of}
use Rattle.answer_tables.specs.Combining.{test_of, AreCombined, JointsWithin, LinksAreIn}
use Rattle.answer_tables.proofs.Combinations.{joints_within, AreUsed-combined, AreRuns-combined}
use Rattle.answer_tables.proofs.Combinations.{are_moved, table_combined, links_are_in}
use Rattle.answer_tables.proofs.combine.combine_ranks.Goals as goal

pub combined_links-requires : goal.combined_links-requires
combined_links-requires c =
    let sa = c.a.inside.slots in
    let ka = c.a.inside.arity in
    let la = c.a.inside.links.items in
    let ra = c.a.inside.ranks.value in
    let lb = c.b.inside.links.items in
    let rb = c.b.inside.ranks.value in
    let runs = c.in_ok-aligned.aligned.ranks in
    let joints = c.in_ok-aligned.aligned.joints.items in
    let aligned : IsAligned ra rb runs joints =
    subst (λ (r : List Run). IsAligned r rb runs joints) c.as_ref.ensures
    (subst (λ (r : List Run). IsAligned c.as_ref.result.now r runs joints) c.as_ref-2.ensures
    c.in_ok-aligned.ensures) in
    let are_b : AreRuns sa ka lb rb =
    are_moved c.args.a.now c.args.b.now sa ka c.b.inside.slots c.b.inside.arity la lb ra rb
    c.a.view_is c.b.view_is c.requires.slots c.requires.arity c.b.invariant.are in
    let told : JointsWithin (length la) (length lb) joints =
    joints_within sa ka la lb ra rb runs joints c.a.invariant.are are_b aligned in
    subst (λ (l : List (List ℕ)). JointsWithin (length l) (length c.as_slice-2.result.now)
    c.as_slice-3.result.now) (sym c.as_slice.ensures.value)
    (subst (λ (l : List (List ℕ)). JointsWithin (length la) (length l) c.as_slice-3.result.now)
    (sym c.as_slice-2.ensures.value)
    (subst (JointsWithin (length la) (length lb)) (sym c.as_slice-3.ensures.value) told))

pub from_aligned-requires-clause-used : goal.from_aligned-requires-clause-used
from_aligned-requires-clause-used c =
    let sa = c.a.inside.slots in
    let ka = c.a.inside.arity in
    let la = c.a.inside.links.items in
    let ra = c.a.inside.ranks.value in
    let lb = c.b.inside.links.items in
    let rb = c.b.inside.ranks.value in
    let runs = c.in_ok-aligned.aligned.ranks in
    let joints = c.in_ok-aligned.aligned.joints.items in
    let links = c.in_ok-links.links.items in
    let aligned : IsAligned ra rb runs joints =
    subst (λ (r : List Run). IsAligned r rb runs joints) c.as_ref.ensures
    (subst (λ (r : List Run). IsAligned c.as_ref.result.now r runs joints) c.as_ref-2.ensures
    c.in_ok-aligned.ensures) in
    let combined : AreCombined (test_of c.args.operation) la lb joints links =
    subst (λ (l : List (List ℕ)). AreCombined (test_of c.args.operation) l lb joints links)
    c.as_slice.ensures.value
    (subst (λ (l : List (List ℕ)). AreCombined (test_of c.args.operation) c.as_slice.result.now l
    joints links) c.as_slice-2.ensures.value
    (subst (λ (js : List Joint). AreCombined (test_of c.args.operation) c.as_slice.result.now
    c.as_slice-2.result.now js links) c.as_slice-3.ensures.value
    c.in_ok-links.ensures.links)) in
    let are_b : AreRuns sa ka lb rb =
    are_moved c.args.a.now c.args.b.now sa ka c.b.inside.slots c.b.inside.arity la lb ra rb
    c.a.view_is c.b.view_is c.requires.slots c.requires.arity c.b.invariant.are in
    subst (λ (l : List (List ℕ)). AreUsed (sa ^ ka) (length l) runs)
    (sym c.as_slice-4.ensures.value)
    (AreUsed-combined sa ka la lb ra rb runs joints c.a.invariant.are are_b aligned
    (test_of c.args.operation) links combined)

pub returns-clause-each : goal.returns-clause-each
returns-clause-each c =
    let sa = c.a.inside.slots in
    let ka = c.a.inside.arity in
    let la = c.a.inside.links.items in
    let ra = c.a.inside.ranks.value in
    let lb = c.b.inside.links.items in
    let rb = c.b.inside.ranks.value in
    let runs = c.in_ok-aligned.aligned.ranks in
    let joints = c.in_ok-aligned.aligned.joints.items in
    let links = c.in_ok-links.links.items in
    let aligned : IsAligned ra rb runs joints =
    subst (λ (r : List Run). IsAligned r rb runs joints) c.as_ref.ensures
    (subst (λ (r : List Run). IsAligned c.as_ref.result.now r runs joints) c.as_ref-2.ensures
    c.in_ok-aligned.ensures) in
    let combined : AreCombined (test_of c.args.operation) la lb joints links =
    subst (λ (l : List (List ℕ)). AreCombined (test_of c.args.operation) l lb joints links)
    c.as_slice.ensures.value
    (subst (λ (l : List (List ℕ)). AreCombined (test_of c.args.operation) c.as_slice.result.now l
    joints links) c.as_slice-2.ensures.value
    (subst (λ (js : List Joint). AreCombined (test_of c.args.operation) c.as_slice.result.now
    c.as_slice-2.result.now js links) c.as_slice-3.ensures.value
    c.in_ok-links.ensures.links)) in
    IfOk-weaker c.from_aligned.result _ _ (λ (t : Antichains) is.
    table_combined c.args.a.now c.args.b.now sa ka c.b.inside.slots c.b.inside.arity la lb ra rb
    c.a.view_is c.b.view_is c.requires.slots c.requires.arity (test_of c.args.operation) links
    runs joints t c.a.invariant.are c.b.invariant.are aligned combined
    (is ∙ ap (λ (l : List (List ℕ)). view_of sa ka l runs) c.as_slice-4.ensures.value))
    c.from_aligned.ensures

pub returns-clause-stored : goal.returns-clause-stored
returns-clause-stored c =
    let sa = c.a.inside.slots in
    let ka = c.a.inside.arity in
    let la = c.a.inside.links.items in
    let ra = c.a.inside.ranks.value in
    let lb = c.b.inside.links.items in
    let rb = c.b.inside.ranks.value in
    let runs = c.in_ok-aligned.aligned.ranks in
    let joints = c.in_ok-aligned.aligned.joints.items in
    let links = c.in_ok-links.links.items in
    let aligned : IsAligned ra rb runs joints =
    subst (λ (r : List Run). IsAligned r rb runs joints) c.as_ref.ensures
    (subst (λ (r : List Run). IsAligned c.as_ref.result.now r runs joints) c.as_ref-2.ensures
    c.in_ok-aligned.ensures) in
    let combined : AreCombined (test_of c.args.operation) la lb joints links =
    subst (λ (l : List (List ℕ)). AreCombined (test_of c.args.operation) l lb joints links)
    c.as_slice.ensures.value
    (subst (λ (l : List (List ℕ)). AreCombined (test_of c.args.operation) c.as_slice.result.now l
    joints links) c.as_slice-2.ensures.value
    (subst (λ (js : List Joint). AreCombined (test_of c.args.operation) c.as_slice.result.now
    c.as_slice-2.result.now js links) c.as_slice-3.ensures.value
    c.in_ok-links.ensures.links)) in
    let are_b : AreRuns sa ka lb rb =
    are_moved c.args.a.now c.args.b.now sa ka c.b.inside.slots c.b.inside.arity la lb ra rb
    c.a.view_is c.b.view_is c.requires.slots c.requires.arity c.b.invariant.are in
    let are : AreRuns sa ka links runs =
    AreRuns-combined sa ka la lb ra rb runs joints c.a.invariant.are are_b aligned
    (test_of c.args.operation) links combined in
    IfOk-weaker c.from_aligned.result _ _ (λ (t : Antichains) is.
    subst (λ (v : Antichains). LinksAreIn v c.combined_links.new.store)
    (sym (is ∙ ap (λ (l : List (List ℕ)). view_of sa ka l runs) c.as_slice-4.ensures.value))
    (links_are_in sa ka links runs c.combined_links.new.store are c.in_ok-links.ensures.stored))
    c.from_aligned.ensures
