use Rattle.std.proofs.Common.{◌≡◌, ◌<◌, ℕ, List, length, vec_len, rules, subst, arith}
use Rattle.std.specs.Prelude.{IfSome, slice_index}
use Rattle.formula_store.specs.Interned.{AreDistinct}
use Rattle.answer_tables.specs.declared.align.Joint.{Joint}
use Rattle.answer_tables.specs.Patching.{ArePlacesAfter, IsPatched}
use Rattle.answer_tables.proofs.Patches.{IsChanged-patched}
use Rattle.answer_tables.proofs.patch.changed.Goals as goal

pub returns : goal.returns
returns c =
    let own = c.args.own.now in
    let links = c.args.links.now in
    let bytes = c.args.bytes.now in
    let runs = c.args.aligned.now.ranks in
    let joints = c.args.aligned.now.joints.items in
    let once = c.places_of.new.once.items in
    let new = c.in_ok-new.new.items in
    let count : vec_len c.places_of.new.once ≡ length once = search rules in
    let distinct : AreDistinct once =
    subst (λ o. IfSome o (λ places. AreDistinct once)) c.in-Some.is
    c.in_ok-places.ensures.distinct in
    let places : ArePlacesAfter own links once c.in-Some.places.items =
    subst (λ (old : List (List ℕ)). ArePlacesAfter old links once c.in-Some.places.items)
    c.in_ok-once.ensures
    (subst (λ o. IfSome o (λ places.
    ArePlacesAfter c.in_ok-once.once.items links once places.items)) c.in-Some.is
    c.in_ok-places.ensures.places) in
    let patched : IsPatched bytes runs joints c.args.usual c.in-Some.places.items (length bytes)
    new =
    subst (λ (js : List Joint). IsPatched bytes runs js c.args.usual c.in-Some.places.items
    (length bytes) new) c.as_slice-joints.ensures.value
    (subst (λ (ps : List ℕ). IsPatched bytes runs c.as_slice-joints.result.now c.args.usual ps
    (length bytes) new) c.as_slice.ensures.value c.in_ok-new.ensures) in
    let used : (i : ℕ) → i < length once → (n : ℕ) × (n < length new) × (slice_index new n ≡ i) =
    λ i within.
    subst (λ (bs : List ℕ). (n : ℕ) × (n < length bs)
    × (slice_index bs n ≡ i)) c.as_slice-2.ensures.value
    (c.has_all.ensures c.if-not-has_all.false i
    (omega (arith, within, count, c.len.ensures))) in
    IsChanged-patched own links once bytes new runs joints c.args.usual c.in-Some.places.items
    distinct places patched used c.requires.told c.requires.named c.requires.ends
    c.requires.many
