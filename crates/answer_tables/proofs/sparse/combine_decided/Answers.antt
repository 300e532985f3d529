use Rattle.std.proofs.Common.{◌≡◌, ◌^◌, ◌<◌, ℕ, List, [], length, vec_len, rules, sym, ◌∙◌, ap}
use Rattle.std.proofs.Common.{subst, arith}
use Rattle.std.specs.Prelude.{slice_index_or}
use Rattle.std.proofs.lemmas.List.{get_or_default}
use Rattle.answer_tables.specs.declared.run.Run.{Run}
use Rattle.answer_tables.specs.declared.align.Joint.{Joint}
use Rattle.answer_tables.specs.Masking.{IsMaskedAligned}
use Rattle.answer_tables.specs.Table.{Antichains, AreRuns, AreUsed, view_of}
use Rattle.answer_tables.specs.Combining.{test_of, AreCombined, JointsWithin, LinksAreIn}
use Rattle.answer_tables.specs.Deciding.{IsDeciding}
use Rattle.answer_tables.proofs.Combinations.{links_are_in}
use Rattle.answer_tables.proofs.Deciders.{joints_in, runs_are, used_are, table_decided}
use Rattle.answer_tables.proofs.sparse.combine_decided.Goals as goal

pub combined_links-requires : goal.combined_links-requires
combined_links-requires c =
    let la = c.a.inside.links.items in
    let ra = c.a.inside.ranks.value in
    let lb = c.b.inside.links.items in
    let rb = c.b.inside.ranks.value in
    let runs = c.in_ok-aligned.aligned.ranks in
    let joints = c.in_ok-aligned.aligned.joints.items in
    let masked : IsMaskedAligned ra rb c.args.usual runs joints =
    subst (λ (r : List Run). IsMaskedAligned r rb c.args.usual runs joints) c.as_ref-ra.ensures
    (subst (λ (r : List Run). IsMaskedAligned c.as_ref-ra.result.now r c.args.usual runs joints)
    c.as_ref-rb.ensures c.in_ok-aligned.ensures) in
    let told : JointsWithin (length la) (length lb) joints =
    joints_in c.args.a.now c.args.b.now c.a.inside.slots c.a.inside.arity c.b.inside.slots
    c.b.inside.arity la lb ra rb c.a.view_is c.b.view_is c.requires.slots c.requires.arity
    c.args.usual runs joints c.a.invariant.are c.b.invariant.are masked in
    subst (λ (l : List (List ℕ)). JointsWithin (length l) (length c.as_slice-lb.result.now)
    c.as_slice-joints.result.now) (sym c.as_slice-la.ensures.value)
    (subst (λ (l : List (List ℕ)). JointsWithin (length la) (length l) c.as_slice-joints.result.now)
    (sym c.as_slice-lb.ensures.value)
    (subst (JointsWithin (length la) (length lb)) (sym c.as_slice-joints.ensures.value) told))

pub from_aligned-requires-clause-used : goal.from_aligned-requires-clause-used
from_aligned-requires-clause-used c =
    let la = c.a.inside.links.items in
    let ra = c.a.inside.ranks.value in
    let lb = c.b.inside.links.items in
    let rb = c.b.inside.ranks.value in
    let runs = c.in_ok-aligned.aligned.ranks in
    let joints = c.in_ok-aligned.aligned.joints.items in
    let links = c.in_ok-links.links.items in
    let masked : IsMaskedAligned ra rb c.args.usual runs joints =
    subst (λ (r : List Run). IsMaskedAligned r rb c.args.usual runs joints) c.as_ref-ra.ensures
    (subst (λ (r : List Run). IsMaskedAligned c.as_ref-ra.result.now r c.args.usual runs joints)
    c.as_ref-rb.ensures c.in_ok-aligned.ensures) in
    let combined : AreCombined (test_of c.args.operation) la lb joints links =
    subst (λ (l : List (List ℕ)). AreCombined (test_of c.args.operation) l lb joints links)
    c.as_slice-la.ensures.value
    (subst (λ (l : List (List ℕ)). AreCombined (test_of c.args.operation) c.as_slice-la.result.now l
    joints links) c.as_slice-lb.ensures.value
    (subst (λ (js : List Joint). AreCombined (test_of c.args.operation) c.as_slice-la.result.now
    c.as_slice-lb.result.now js links) c.as_slice-joints.ensures.value
    c.in_ok-links.ensures.links)) in
    subst (λ (l : List (List ℕ)). AreUsed (c.a.inside.slots ^ c.a.inside.arity) (length l) runs)
    (sym c.as_slice-links.ensures.value)
    (used_are c.args.a.now c.args.b.now c.a.inside.slots c.a.inside.arity c.b.inside.slots
    c.b.inside.arity la lb ra rb c.a.view_is c.b.view_is c.requires.slots c.requires.arity
    c.args.usual runs joints c.a.invariant.are c.b.invariant.are masked
    (test_of c.args.operation) links combined)

pub returns-clause-combined : goal.returns-clause-combined
returns-clause-combined c =
    let la = c.a.inside.links.items in
    let ra = c.a.inside.ranks.value in
    let lb = c.b.inside.links.items in
    let rb = c.b.inside.ranks.value in
    let runs = c.in_ok-aligned.aligned.ranks in
    let joints = c.in_ok-aligned.aligned.joints.items in
    let links = c.in_ok-links.links.items in
    let masked : IsMaskedAligned ra rb c.args.usual runs joints =
    subst (λ (r : List Run). IsMaskedAligned r rb c.args.usual runs joints) c.as_ref-ra.ensures
    (subst (λ (r : List Run). IsMaskedAligned c.as_ref-ra.result.now r c.args.usual runs joints)
    c.as_ref-rb.ensures c.in_ok-aligned.ensures) in
    let combined : AreCombined (test_of c.args.operation) la lb joints links =
    subst (λ (l : List (List ℕ)). AreCombined (test_of c.args.operation) l lb joints links)
    c.as_slice-la.ensures.value
    (subst (λ (l : List (List ℕ)). AreCombined (test_of c.args.operation) c.as_slice-la.result.now l
    joints links) c.as_slice-lb.ensures.value
    (subst (λ (js : List Joint). AreCombined (test_of c.args.operation) c.as_slice-la.result.now
    c.as_slice-lb.result.now js links) c.as_slice-joints.ensures.value
    c.in_ok-links.ensures.links)) in
    let many : vec_len c.b.inside.links ≡ length lb = search rules in
    let within : c.args.usual < length lb =
    omega (arith, many, c.len.ensures, c.if-usual-len.false) in
    let deciding : IsDeciding (test_of c.args.operation) (slice_index_or lb c.args.usual []) =
    subst (IsDeciding (test_of c.args.operation))
    (c.index.ensures ∙ get_or_default lb c.args.usual c.index.result.now [] within)
    (c.decides.ensures c.if-not-decides.false) in
    table_decided c.args.a.now c.args.b.now c.a.inside.slots c.a.inside.arity c.b.inside.slots
    c.b.inside.arity la lb ra rb c.a.view_is c.b.view_is c.requires.slots c.requires.arity
    c.args.usual runs joints c.a.invariant.are c.b.invariant.are masked
    (test_of c.args.operation) links combined deciding
    c.in_ok-table.table (c.in_ok-table.ensures ∙ ap (λ (l : List (List ℕ)).
    view_of c.a.inside.slots c.a.inside.arity l runs) c.as_slice-links.ensures.value)

pub returns-clause-stored : goal.returns-clause-stored
returns-clause-stored c =
    let slots = c.a.inside.slots in
    let arity = c.a.inside.arity in
    let la = c.a.inside.links.items in
    let ra = c.a.inside.ranks.value in
    let lb = c.b.inside.links.items in
    let rb = c.b.inside.ranks.value in
    let runs = c.in_ok-aligned.aligned.ranks in
    let joints = c.in_ok-aligned.aligned.joints.items in
    let links = c.in_ok-links.links.items in
    let masked : IsMaskedAligned ra rb c.args.usual runs joints =
    subst (λ (r : List Run). IsMaskedAligned r rb c.args.usual runs joints) c.as_ref-ra.ensures
    (subst (λ (r : List Run). IsMaskedAligned c.as_ref-ra.result.now r c.args.usual runs joints)
    c.as_ref-rb.ensures c.in_ok-aligned.ensures) in
    let combined : AreCombined (test_of c.args.operation) la lb joints links =
    subst (λ (l : List (List ℕ)). AreCombined (test_of c.args.operation) l lb joints links)
    c.as_slice-la.ensures.value
    (subst (λ (l : List (List ℕ)). AreCombined (test_of c.args.operation) c.as_slice-la.result.now l
    joints links) c.as_slice-lb.ensures.value
    (subst (λ (js : List Joint). AreCombined (test_of c.args.operation) c.as_slice-la.result.now
    c.as_slice-lb.result.now js links) c.as_slice-joints.ensures.value
    c.in_ok-links.ensures.links)) in
    let are : AreRuns slots arity links runs =
    runs_are c.args.a.now c.args.b.now slots arity c.b.inside.slots c.b.inside.arity la lb ra rb
    c.a.view_is c.b.view_is c.requires.slots c.requires.arity c.args.usual runs joints
    c.a.invariant.are c.b.invariant.are masked (test_of c.args.operation) links combined in
    subst (λ (v : Antichains). LinksAreIn v c.combined_links.new.store)
    (sym (c.in_ok-table.ensures ∙ ap (λ (l : List (List ℕ)).
    view_of slots arity l runs) c.as_slice-links.ensures.value))
    (links_are_in slots arity links runs c.combined_links.new.store are
    c.in_ok-links.ensures.stored)
