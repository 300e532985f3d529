use Rattle.std.proofs.Common.{◌≡◌, ◌+◌, ◌≤◌, ◌<◌, ℕ, List, ap, ◌∙◌, arith, map}
use Rattle.std.proofs.Common.{drop, length, get_or, inl, inr}
use Rattle.std.specs.Prelude.{◌⊎◌}
use Rattle.owl_reader.specs.declared.entities.Term as terms
use Rattle.owl_reader.specs.Statements.{Term, sub, all_added}
use Rattle.owl_reader.specs.StatementViews.{term_seen}
use Rattle.owl_reader.proofs.AddingLemmas.{rest_of_cycle, one_added, step_fails, none_added}
use Rattle.owl_reader.proofs.AddingLemmas.{seen_next, equivalent_cycle, cycle_end, terms_end}
use Rattle.owl_reader.proofs.AddingLemmas.{no_term}
use Rattle.owl_reader.proofs.axioms.add_equivalent.Goals as goal
use Rattle.owl_reader.proofs.axioms.add_equivalent.Goals.{then-place-terms, else-place-terms}

pub loop-place-init : goal.loop-place-init
loop-place-init c = record {
  within = omega arith;
  read = ap (all_added c.args.ontology.now) (equivalent_cycle (map term_seen c.args.terms.now));
}

abbrev IsNext : List terms.Term → ℕ → ℕ → Type 0
IsNext xs place next = ((place + 1 < length xs) × (next ≡ place + 1))
    ⊎ ((length xs ≤ place + 1) × (next ≡ 0))

pub returns-in-Err : goal.returns-in-Err
returns-in-Err c =
    let o = c.loop-place.ontology in
    let xs = c.args.terms.now in
    let place = c.loop-place.place in
    let next = c.if-place-terms.next in
    let which : IsNext xs place next = elim c.if-place-terms.branch [
      | then-place-terms w ↦
          inl (w.if-place-terms.true, w.next-is)
      | else-place-terms w ↦
          inr (w.if-place-terms.false, w.next-is)
    ] in
    step_fails c.in-Err.fault _ o (sub (term_seen (get_or xs place no_term))
    (term_seen (get_or xs next no_term)))
    (rest_of_cycle (map term_seen xs) (map term_seen (drop (place + 1) xs))) c.in-Err.ensures
    (c.loop-place.invariant.read ∙ ap (all_added o)
    (seen_next xs place next c.loop-place-test.true which))

pub loop-place-preserved : goal.loop-place-preserved
loop-place-preserved c =
    let o = c.loop-place.ontology in
    let xs = c.args.terms.now in
    let place = c.loop-place.place in
    let next = c.if-place-terms.next in
    let which : IsNext xs place next = elim c.if-place-terms.branch [
      | then-place-terms w ↦
          inl (w.if-place-terms.true, w.next-is)
      | else-place-terms w ↦
          inr (w.if-place-terms.false, w.next-is)
    ] in
    record {
      within = omega arith;
      read =
          c.loop-place.invariant.read
          ∙ ap (all_added o) (seen_next xs place next c.loop-place-test.true which)
          ∙ one_added o c.add_sub.new.ontology
          (sub (term_seen (get_or xs place no_term)) (term_seen (get_or xs next no_term)))
          (rest_of_cycle (map term_seen xs) (map term_seen (drop (place + 1) xs)))
          c.in-Ok.ensures;
    }

pub returns : goal.returns
returns c =
    c.loop-place.invariant.read
    ∙ ap (λ (ts : List Term). all_added c.loop-place.ontology
    (rest_of_cycle (map term_seen c.args.terms.now) ts))
    (terms_end c.args.terms.now c.loop-place.place c.loop-place-test.false)
    ∙ ap (all_added c.loop-place.ontology) (cycle_end (map term_seen c.args.terms.now))
    ∙ none_added c.loop-place.ontology
