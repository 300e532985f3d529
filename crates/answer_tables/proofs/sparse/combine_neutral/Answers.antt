use Rattle.std.proofs.Common.{◌≡◌, ◌<◌, ℕ, List, [], length, sym, ◌∙◌, ap, subst, arith}
use Rattle.std.specs.Prelude.{IfSome, slice_index_or}
use Rattle.std.proofs.lemmas.List.{get_or_default}
use Rattle.answer_tables.specs.declared.run.Run.{Run}
use Rattle.answer_tables.specs.declared.align.Joint.{Joint}
use Rattle.answer_tables.specs.Masking.{IsMaskedAligned}
use Rattle.answer_tables.specs.Runs.{link_at, end_from, unit_runs}
use Rattle.answer_tables.specs.Table.{Antichains, AreRuns, IsTable, view_of}
use Rattle.answer_tables.specs.Combining.{test_of, AreCombined, JointsWithin, LinksAreIn}
use Rattle.answer_tables.specs.Deciding.{IsNeutral, AreFirsts}
use Rattle.answer_tables.specs.Patching.{IsChanged}
use Rattle.answer_tables.specs.Made.{IsCombination}
use Rattle.answer_tables.proofs.Runs.{link_at-named}
use Rattle.answer_tables.proofs.UnitRuns.{end_unit, unit_byte}
use Rattle.answer_tables.proofs.Combinations.{links_are_in}
use Rattle.answer_tables.proofs.Deciders.{joints_in, table_unchanged, table_is, table_changed}
use Rattle.answer_tables.proofs.sparse.combine_neutral.Goals as goal

pub combined_links-requires : goal.combined_links-requires
combined_links-requires c =
    let la = c.a.inside.links.items in
    let ra = c.a.inside.ranks.value in
    let lb = c.b.inside.links.items in
    let rb = c.b.inside.ranks.value in
    let runs = c.in_ok-aligned.aligned.ranks in
    let joints = c.in_ok-aligned.aligned.joints.items in
    let masked : IsMaskedAligned ra rb c.args.usual runs joints =
    subst (λ (r : List Run). IsMaskedAligned r rb c.args.usual runs joints) c.as_ref-ra.ensures
    (subst (λ (r : List Run). IsMaskedAligned c.as_ref-ra.result.now r c.args.usual runs joints)
    c.as_ref-rb.ensures c.in_ok-aligned.ensures) in
    let told : JointsWithin (length la) (length lb) joints =
    joints_in c.args.a.now c.args.b.now c.a.inside.slots c.a.inside.arity c.b.inside.slots
    c.b.inside.arity la lb ra rb c.a.view_is c.b.view_is c.requires.slots c.requires.arity
    c.args.usual runs joints c.a.invariant.are c.b.invariant.are masked in
    subst (λ (l : List (List ℕ)). JointsWithin (length l) (length c.as_slice-lb.result.now)
    c.as_slice-joints.result.now) (sym c.as_slice-la.ensures.value)
    (subst (λ (l : List (List ℕ)). JointsWithin (length la) (length l) c.as_slice-joints.result.now)
    (sym c.as_slice-lb.ensures.value)
    (subst (JointsWithin (length la) (length lb)) (sym c.as_slice-joints.ensures.value) told))

pub are_firsts-requires-clause-within : goal.are_firsts-requires-clause-within
are_firsts-requires-clause-within c =
    let la = c.a.inside.links.items in
    let ra = c.a.inside.ranks.value in
    let lb = c.b.inside.links.items in
    let rb = c.b.inside.ranks.value in
    let runs = c.in_ok-aligned.aligned.ranks in
    let joints = c.in_ok-aligned.aligned.joints.items in
    let masked : IsMaskedAligned ra rb c.args.usual runs joints =
    subst (λ (r : List Run). IsMaskedAligned r rb c.args.usual runs joints) c.as_ref-ra.ensures
    (subst (λ (r : List Run). IsMaskedAligned c.as_ref-ra.result.now r c.args.usual runs joints)
    c.as_ref-rb.ensures c.in_ok-aligned.ensures) in
    let told : JointsWithin (length la) (length lb) joints =
    joints_in c.args.a.now c.args.b.now c.a.inside.slots c.a.inside.arity c.b.inside.slots
    c.b.inside.arity la lb ra rb c.a.view_is c.b.view_is c.requires.slots c.requires.arity
    c.args.usual runs joints c.a.invariant.are c.b.invariant.are masked in
    subst (λ (l : List (List ℕ)). (k : ℕ) (d : Joint) → k < length c.as_slice-joints.result.now
    → (slice_index_or c.as_slice-joints.result.now k d).first < length l)
    (sym c.as_slice-la.ensures.value)
    (subst (λ (js : List Joint). (k : ℕ) (d : Joint) → k < length js
    → (slice_index_or js k d).first < length la) (sym c.as_slice-joints.ensures.value)
    (λ k d within. (told k d within).0))

pub returns-then-are_firsts-clause-combined : goal.returns-then-are_firsts-clause-combined
returns-then-are_firsts-clause-combined c =
    let slots = c.a.inside.slots in
    let arity = c.a.inside.arity in
    let la = c.a.inside.links.items in
    let ra = c.a.inside.ranks.value in
    let lb = c.b.inside.links.items in
    let rb = c.b.inside.ranks.value in
    let runs = c.in_ok-aligned.aligned.ranks in
    let joints = c.in_ok-aligned.aligned.joints.items in
    let links = c.in_ok-links.links.items in
    let test = test_of c.args.operation in
    let masked : IsMaskedAligned ra rb c.args.usual runs joints =
    subst (λ (r : List Run). IsMaskedAligned r rb c.args.usual runs joints) c.as_ref-ra.ensures
    (subst (λ (r : List Run). IsMaskedAligned c.as_ref-ra.result.now r c.args.usual runs joints)
    c.as_ref-rb.ensures c.in_ok-aligned.ensures) in
    let combined : AreCombined test la lb joints links =
    subst (λ (l : List (List ℕ)). AreCombined test l lb joints links) c.as_slice-la.ensures.value
    (subst (λ (l : List (List ℕ)). AreCombined test c.as_slice-la.result.now l joints links)
    c.as_slice-lb.ensures.value
    (subst (λ (js : List Joint). AreCombined test c.as_slice-la.result.now c.as_slice-lb.result.now
    js links) c.as_slice-joints.ensures.value c.in_ok-links.ensures.links)) in
    let within : c.args.usual < length lb =
    omega (
      arith,
      c.if-usual-lb.false,
      ap (λ (l : List (List ℕ)).
          length l) c.as_slice-lb.ensures.value,
    ) in
    let usual : c.index-lb-usual.result ≡ slice_index_or lb c.args.usual [] =
    c.index-lb-usual.is ∙ ap (λ (l : List (List ℕ)).
    slice_index_or l c.args.usual c.index-lb-usual.result)
    c.as_slice-lb.ensures.value ∙ get_or_default lb c.args.usual c.index-lb-usual.result []
    within in
    let neutral : IsNeutral test la (slice_index_or lb c.args.usual []) =
    subst (IsNeutral test la) usual (subst (λ (l : List (List ℕ)).
    IsNeutral test l c.index-lb-usual.result) c.as_slice-la.ensures.value
    (c.in_ok-is_neutral.ensures.neutral c.if-not-branch.false)) in
    let firsts : AreFirsts la joints links =
    subst (λ (l : List (List ℕ)). AreFirsts l joints links) c.as_slice-la.ensures.value
    (subst (λ (js : List Joint). AreFirsts c.as_slice-la.result.now js links)
    c.as_slice-joints.ensures.value
    (subst (AreFirsts c.as_slice-la.result.now c.as_slice-joints.result.now)
    c.as_slice.ensures.value (c.are_firsts.ensures c.if-are_firsts.true))) in
    subst (IsCombination test c.args.a.now c.args.b.now) (sym c.in_ok-same.ensures.same)
    (table_unchanged c.args.a.now c.args.b.now slots arity c.b.inside.slots c.b.inside.arity la
    lb ra rb c.a.view_is c.b.view_is c.requires.slots c.requires.arity c.args.usual runs joints
    c.a.invariant.are c.b.invariant.are masked test links combined firsts neutral)

pub changed-requires-clause-told : goal.changed-requires-clause-told
changed-requires-clause-told c =
    let la = c.a.inside.links.items in
    let ra = c.a.inside.ranks.value in
    let bytes = c.in-Some.bytes.now in
    let own : unit_runs 0 bytes ≡ ra = c.in-Some.ensures ∙ c.as_ref-ra.ensures in
    λ n within.
    let ends = ap (end_from 0) own in
    let small : link_at ra n < length la =
    link_at-named 0 ra (length la) n c.a.invariant.are.named (omega arith)
    (omega (arith, within, ends, end_unit bytes)) in
    omega (
      arith,
      small,
      ap (λ (rs : List Run).
          link_at rs n) own,
      unit_byte bytes n within,
      ap (λ (l : List (List ℕ)).
          length l) c.as_slice-la.ensures.value,
    )

pub changed-requires-clause-ends : goal.changed-requires-clause-ends
changed-requires-clause-ends c =
    let bytes = c.in-Some.bytes.now in
    let own : unit_runs 0 bytes ≡ c.as_ref-ra.result.now = c.in-Some.ensures in
    let masked : IsMaskedAligned c.as_ref-ra.result.now c.as_ref-rb.result.now c.args.usual
    c.in_ok-aligned.aligned.ranks c.in_ok-aligned.aligned.joints.items =
    c.in_ok-aligned.ensures in
    masked.aligned.ends ∙ masked.is.ends ∙ sym (ap (end_from 0) own) ∙ end_unit bytes

pub from_own-requires : goal.from_own-requires
from_own-requires c =
    let slots = c.a.inside.slots in
    let arity = c.a.inside.arity in
    let la = c.a.inside.links.items in
    let ra = c.a.inside.ranks.value in
    let lb = c.b.inside.links.items in
    let rb = c.b.inside.ranks.value in
    let runs = c.in_ok-aligned.aligned.ranks in
    let joints = c.in_ok-aligned.aligned.joints.items in
    let links = c.in_ok-links.links.items in
    let test = test_of c.args.operation in
    let masked : IsMaskedAligned ra rb c.args.usual runs joints =
    subst (λ (r : List Run). IsMaskedAligned r rb c.args.usual runs joints) c.as_ref-ra.ensures
    (subst (λ (r : List Run). IsMaskedAligned c.as_ref-ra.result.now r c.args.usual runs joints)
    c.as_ref-rb.ensures c.in_ok-aligned.ensures) in
    let combined : AreCombined test la lb joints links =
    subst (λ (l : List (List ℕ)). AreCombined test l lb joints links) c.as_slice-la.ensures.value
    (subst (λ (l : List (List ℕ)). AreCombined test c.as_slice-la.result.now l joints links)
    c.as_slice-lb.ensures.value
    (subst (λ (js : List Joint). AreCombined test c.as_slice-la.result.now c.as_slice-lb.result.now
    js links) c.as_slice-joints.ensures.value c.in_ok-links.ensures.links)) in
    let bytes = c.in-Some.bytes.now in
    let once = c.in-Some-2.redone.links.items in
    let new = c.in-Some-2.redone.bytes.items in
    let own : unit_runs 0 bytes ≡ ra = c.in-Some.ensures ∙ c.as_ref-ra.ensures in
    let changed : IsChanged la links bytes runs joints c.args.usual once new =
    subst (λ (l : List (List ℕ)). IsChanged l links bytes runs joints c.args.usual once new)
    c.as_slice-la.ensures.value
    (subst (λ (l : List (List ℕ)). IsChanged c.as_slice-la.result.now l bytes runs joints
    c.args.usual once new) c.as_slice-2.ensures.value
    (subst (λ o. IfSome o (λ z. IsChanged c.as_slice-la.result.now c.as_slice-2.result.now bytes
    runs joints c.args.usual z.links.items z.bytes.items)) c.in-Some-2.is
    c.in_ok-redone.ensures)) in
    let stored : c.in_ok-links-2.links.items ≡ once =
    c.in_ok-links-2.ensures.same ∙ c.as_slice-3.ensures.value in
    subst (λ (l : List (List ℕ)). IsTable slots arity l c.from_bytes-ranks.result) (sym stored)
    (subst (IsTable slots arity once) (sym c.from_bytes-ranks.ensures)
    (table_is c.args.a.now c.args.b.now slots arity c.b.inside.slots c.b.inside.arity la lb ra rb
    c.a.view_is c.b.view_is c.requires.slots c.requires.arity c.args.usual runs joints
    c.a.invariant.are c.b.invariant.are masked test links combined bytes new once own changed))

pub returns-clause-combined : goal.returns-clause-combined
returns-clause-combined c =
    let slots = c.a.inside.slots in
    let arity = c.a.inside.arity in
    let la = c.a.inside.links.items in
    let ra = c.a.inside.ranks.value in
    let lb = c.b.inside.links.items in
    let rb = c.b.inside.ranks.value in
    let runs = c.in_ok-aligned.aligned.ranks in
    let joints = c.in_ok-aligned.aligned.joints.items in
    let links = c.in_ok-links.links.items in
    let test = test_of c.args.operation in
    let masked : IsMaskedAligned ra rb c.args.usual runs joints =
    subst (λ (r : List Run). IsMaskedAligned r rb c.args.usual runs joints) c.as_ref-ra.ensures
    (subst (λ (r : List Run). IsMaskedAligned c.as_ref-ra.result.now r c.args.usual runs joints)
    c.as_ref-rb.ensures c.in_ok-aligned.ensures) in
    let combined : AreCombined test la lb joints links =
    subst (λ (l : List (List ℕ)). AreCombined test l lb joints links) c.as_slice-la.ensures.value
    (subst (λ (l : List (List ℕ)). AreCombined test c.as_slice-la.result.now l joints links)
    c.as_slice-lb.ensures.value
    (subst (λ (js : List Joint). AreCombined test c.as_slice-la.result.now c.as_slice-lb.result.now
    js links) c.as_slice-joints.ensures.value c.in_ok-links.ensures.links)) in
    let within : c.args.usual < length lb =
    omega (
      arith,
      c.if-usual-lb.false,
      ap (λ (l : List (List ℕ)).
          length l) c.as_slice-lb.ensures.value,
    ) in
    let usual : c.index-lb-usual.result ≡ slice_index_or lb c.args.usual [] =
    c.index-lb-usual.is ∙ ap (λ (l : List (List ℕ)).
    slice_index_or l c.args.usual c.index-lb-usual.result)
    c.as_slice-lb.ensures.value ∙ get_or_default lb c.args.usual c.index-lb-usual.result []
    within in
    let neutral : IsNeutral test la (slice_index_or lb c.args.usual []) =
    subst (IsNeutral test la) usual (subst (λ (l : List (List ℕ)).
    IsNeutral test l c.index-lb-usual.result) c.as_slice-la.ensures.value
    (c.in_ok-is_neutral.ensures.neutral c.if-not-branch.false)) in
    let bytes = c.in-Some.bytes.now in
    let once = c.in-Some-2.redone.links.items in
    let new = c.in-Some-2.redone.bytes.items in
    let own : unit_runs 0 bytes ≡ ra = c.in-Some.ensures ∙ c.as_ref-ra.ensures in
    let changed : IsChanged la links bytes runs joints c.args.usual once new =
    subst (λ (l : List (List ℕ)). IsChanged l links bytes runs joints c.args.usual once new)
    c.as_slice-la.ensures.value
    (subst (λ (l : List (List ℕ)). IsChanged c.as_slice-la.result.now l bytes runs joints
    c.args.usual once new) c.as_slice-2.ensures.value
    (subst (λ o. IfSome o (λ z. IsChanged c.as_slice-la.result.now c.as_slice-2.result.now bytes
    runs joints c.args.usual z.links.items z.bytes.items)) c.in-Some-2.is
    c.in_ok-redone.ensures)) in
    let stored : c.in_ok-links-2.links.items ≡ once =
    c.in_ok-links-2.ensures.same ∙ c.as_slice-3.ensures.value in
    let is : c.in_ok-table.table ≡ view_of slots arity once (unit_runs 0 new) =
    c.in_ok-table.ensures ∙ ap (λ (l : List (List ℕ)).
    view_of slots arity l c.from_bytes-ranks.result) stored ∙ ap (view_of slots arity once)
    c.from_bytes-ranks.ensures in
    subst (IsCombination test c.args.a.now c.args.b.now) (sym is)
    (table_changed c.args.a.now c.args.b.now slots arity c.b.inside.slots c.b.inside.arity la lb
    ra rb c.a.view_is c.b.view_is c.requires.slots c.requires.arity c.args.usual runs joints
    c.a.invariant.are c.b.invariant.are masked test links combined bytes new once own changed
    neutral)

pub returns-clause-stored : goal.returns-clause-stored
returns-clause-stored c =
    let slots = c.a.inside.slots in
    let arity = c.a.inside.arity in
    let la = c.a.inside.links.items in
    let ra = c.a.inside.ranks.value in
    let lb = c.b.inside.links.items in
    let rb = c.b.inside.ranks.value in
    let runs = c.in_ok-aligned.aligned.ranks in
    let joints = c.in_ok-aligned.aligned.joints.items in
    let links = c.in_ok-links.links.items in
    let test = test_of c.args.operation in
    let masked : IsMaskedAligned ra rb c.args.usual runs joints =
    subst (λ (r : List Run). IsMaskedAligned r rb c.args.usual runs joints) c.as_ref-ra.ensures
    (subst (λ (r : List Run). IsMaskedAligned c.as_ref-ra.result.now r c.args.usual runs joints)
    c.as_ref-rb.ensures c.in_ok-aligned.ensures) in
    let combined : AreCombined test la lb joints links =
    subst (λ (l : List (List ℕ)). AreCombined test l lb joints links) c.as_slice-la.ensures.value
    (subst (λ (l : List (List ℕ)). AreCombined test c.as_slice-la.result.now l joints links)
    c.as_slice-lb.ensures.value
    (subst (λ (js : List Joint). AreCombined test c.as_slice-la.result.now c.as_slice-lb.result.now
    js links) c.as_slice-joints.ensures.value c.in_ok-links.ensures.links)) in
    let bytes = c.in-Some.bytes.now in
    let once = c.in-Some-2.redone.links.items in
    let new = c.in-Some-2.redone.bytes.items in
    let own : unit_runs 0 bytes ≡ ra = c.in-Some.ensures ∙ c.as_ref-ra.ensures in
    let changed : IsChanged la links bytes runs joints c.args.usual once new =
    subst (λ (l : List (List ℕ)). IsChanged l links bytes runs joints c.args.usual once new)
    c.as_slice-la.ensures.value
    (subst (λ (l : List (List ℕ)). IsChanged c.as_slice-la.result.now l bytes runs joints
    c.args.usual once new) c.as_slice-2.ensures.value
    (subst (λ o. IfSome o (λ z. IsChanged c.as_slice-la.result.now c.as_slice-2.result.now bytes
    runs joints c.args.usual z.links.items z.bytes.items)) c.in-Some-2.is
    c.in_ok-redone.ensures)) in
    let stored : c.in_ok-links-2.links.items ≡ once =
    c.in_ok-links-2.ensures.same ∙ c.as_slice-3.ensures.value in
    let table : IsTable slots arity once (unit_runs 0 new) =
    table_is c.args.a.now c.args.b.now slots arity c.b.inside.slots c.b.inside.arity la lb ra rb
    c.a.view_is c.b.view_is c.requires.slots c.requires.arity c.args.usual runs joints
    c.a.invariant.are c.b.invariant.are masked test links combined bytes new once own changed in
    let are : AreRuns slots arity c.in_ok-links-2.links.items c.from_bytes-ranks.result =
    subst (λ (l : List (List ℕ)). AreRuns slots arity l c.from_bytes-ranks.result) (sym stored)
    (subst (AreRuns slots arity once) (sym c.from_bytes-ranks.ensures) table.are) in
    subst (λ (v : Antichains). LinksAreIn v c.stored_links.new.store) (sym c.in_ok-table.ensures)
    (links_are_in slots arity c.in_ok-links-2.links.items c.from_bytes-ranks.result
    c.stored_links.new.store are c.in_ok-links-2.ensures.stored)
