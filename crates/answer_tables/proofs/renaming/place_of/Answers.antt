use Rattle.std.proofs.Common.{◌≡◌, ◌<◌, ℕ, List, [], ◌∷◌, ◌++◌, length, vec_len, rules, false, sym}
use Rattle.std.proofs.Common.{◌∙◌, ap, arith, inl, inr, subst}
use Rattle.std.specs.Prelude.{◌≢◌, Some, slice_index_or}
use Rattle.std.specs.Cmp.Lexicographic.{same_text, told_text}
use Rattle.std.proofs.lemmas.Bool.{cases_lt}
use Rattle.std.proofs.lemmas.List.{get_or_default}
use Rattle.std.proofs.lemmas.List.Quantifiers.{all_pairs_push}
use Rattle.std.proofs.lemmas.Option.{slice_get-get_or}
use Rattle.formula_store.specs.Interned.{AreDistinct}
use Rattle.answer_tables.proofs.Renamings.{interned-new, slice_get-last}
use Rattle.answer_tables.proofs.renaming.place_of.Goals as goal

pub loop-place-init : goal.loop-place-init
loop-place-init c = λ k below. absurd (omega (arith, below))

pub returns-then-eq-clause-place : goal.returns-then-eq-clause-place
returns-then-eq-clause-place c =
    let once = c.args.once.now.items in
    let many : vec_len c.args.once.now ≡ length once = search rules in
    let within : c.loop-place.place < length once =
    omega (arith, many, c.len-count.ensures, c.loop-place-test.true) in
    let same : c.args.link.now ≡ c.index.result.now =
    same_text c.args.link.now c.index.result.now (sym (sym c.eq.ensures ∙ c.if-eq.true)) in
    slice_get-get_or once c.loop-place.place c.index.result.now within ∙ ap Some
    (sym c.index.ensures ∙ sym same)

pub loop-place-preserved : goal.loop-place-preserved
loop-place-preserved c =
    let once = c.args.once.now.items in
    let many : vec_len c.args.once.now ≡ length once = search rules in
    let within : c.loop-place.place < length once =
    omega (arith, many, c.len-count.ensures, c.loop-place-test.true) in
    let here : slice_index_or once c.loop-place.place [] ≢ c.args.link.now = λ same.
    told_text c.args.link.now c.index.result.now false (sym (sym c.eq.ensures ∙ c.if-eq.false))
    (sym same ∙ get_or_default once c.loop-place.place [] c.index.result.now within ∙ sym
    c.index.ensures) in
    λ k below. elim (cases_lt k c.loop-place.place) [
      | inl early ↦ c.loop-place.invariant k early
      | inr late ↦ let last : k ≡ c.loop-place.place = omega (arith, below, late) in
          subst (λ (i : ℕ). slice_index_or once i [] ≢ c.args.link.now) (sym last) here
    ]

pub returns-clause-distinct : goal.returns-clause-distinct
returns-clause-distinct c =
    let once = c.args.once.now.items in
    let many : vec_len c.args.once.now ≡ length once = search rules in
    let antichain = c.in_ok-copy.field-0 in
    let all : (k : ℕ) (d : List ℕ) → k < length once → slice_index_or once k d ≢ antichain =
    λ k d within same.
    c.loop-place.invariant k (omega (
      arith,
      within,
      many,
      c.len-count.ensures,
      c.loop-place-test.false,
    )) (get_or_default once k [] d
    within ∙ same ∙ c.in_ok-copy.ensures) in
    subst AreDistinct (sym c.in_ok-push.ensures.items)
    (all_pairs_push (λ (x y : List ℕ). x ≢ y) once antichain c.requires all)

pub returns-clause-grown : goal.returns-clause-grown
returns-clause-grown c =
    let once = c.args.once.now.items in
    let many : vec_len c.args.once.now ≡ length once = search rules in
    c.in_ok-push.ensures.items ∙ ap (λ (x : List ℕ). once ++ x ∷ []) c.in_ok-copy.ensures
    ∙ sym (interned-new c.args.link.now once (λ k within.
    c.loop-place.invariant k
    (omega (arith, within, many, c.len-count.ensures, c.loop-place-test.false))))

pub returns-clause-place : goal.returns-clause-place
returns-clause-place c =
    let once = c.args.once.now.items in
    let many : vec_len c.args.once.now ≡ length once = search rules in
    slice_get-last c.push.new.self.items once c.in_ok-copy.field-0 c.len-count.result
    (c.len-count.ensures ∙ many) c.in_ok-push.ensures.items ∙ ap Some c.in_ok-copy.ensures
