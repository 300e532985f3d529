use Rattle.std.proofs.Common.{◌≡◌, ◌+◌, ◌∷◌, ◌++◌, [], ℕ, List, take, sym, ◌∙◌, subst, arith}
use Rattle.std.proofs.Common.{get_or}
use Rattle.std.proofs.lemmas.Grind.{common_steps}
use Rattle.std.proofs.lemmas.List.{take_more}
use Rattle.std.specs.List.{AllByRecursion}
use Rattle.dl_syntax.specs.declared.facts.Element.TheVariants as element
use Rattle.dl_syntax.specs.declared.facts.Fact.{Fact}
use Rattle.dl_syntax.specs.declared.facts.Fact.TheVariants as fact
use Rattle.ucq_join.specs.declared.bindings.Binding.{Binding}
use Rattle.ucq_join.specs.Partial.{HeadIsCovered, IsCovered, IsComplete}
use Rattle.ucq_join.specs.Bindings.{IsAssigned}
use Rattle.ucq_join.proofs.Adding.{adds_more, adds_bound, adds_refused, covered_rest}
use Rattle.ucq_join.proofs.Adding.{nil_from_length, all_weaker}
use Rattle.ucq_join.proofs.Witnesses.{adds_candidates}
use Rattle.ucq_join.proofs.join.+join.Goals as goal
use Rattle.ucq_join.proofs.join.+join.Goals.{extend_at-then-branch+in_ok-extend}
use Rattle.ucq_join.proofs.join.+join.Goals.{extend_at-else-branch}

pub extend-loop-fact-preserved : goal.extend-loop-fact-preserved
extend-loop-fact-preserved t c =
    let i : ℕ = c.loop-fact.fact-index in
    let items = c.candidates-fact-items.result.now in
    let none : Fact = fact.Concept (record { 0 = 0 }) (element.Ind (record { 0 = 0 })) in
    let more : take (i + 1) items ≡ take i items ++ get_or items i none ∷ [] =
    take_more items i none c.loop-fact-test.true in
    record {
      same = c.in_ok-extend_at.ensures.bindings ∙ c.loop-fact.invariant.same;
      added = rw more (adds_more c.args.index.now c.args.head.now c.in-Some.atom.now
          c.in-Some.rest.now c.args.bindings.now.items
          (take i items) (get_or items i none) c.args.rows.now c.loop-fact.rows c.extend_at.new.rows
          c.loop-fact.invariant.added (rw c.loop-fact.invariant.same at
          c.in_ok-extend_at.ensures.rows));
    }

pub extend-returns-clause-rows : goal.extend-returns-clause-rows
extend-returns-clause-rows t c =
    let items = c.candidates-fact-items.result.now in
    let whole : take c.loop-fact.fact-index items ≡ items = grind (arith, common_steps) in
    let complete : IsComplete c.args.bindings.now.items c.in-Some.atom.now c.args.index.now items =
    rw c.as_slice-2.ensures.value at c.candidates-fact-items.ensures.complete in
    rw c.in-Some.ensures.cases.0 (adds_candidates c.args.index.now c.in-Some.atom.now
    c.in-Some.rest.now c.args.bindings.now.items c.args.head.now items
    c.candidates-fact-items.ensures.within complete c.args.rows.now c.loop-fact.rows
    (rw whole at c.loop-fact.invariant.added))

pub extend_at-returns-clause-rows : goal.extend_at-returns-clause-rows
extend_at-returns-clause-rows t c = elim c.if-branch.branch [
  | extend_at-then-branch+in_ok-extend w ↦
      let fits = rw w.if-branch.true at c.in_ok-bind_atom.ensures.bound in
      rw w.rows-is (adds_bound c.args.index.now c.args.head.now c.args.atom c.args.rest.now
      c.args.bindings.now.items c.args.fact
      c.bind_atom.new.bindings.items fits.0 c.args.rows.now w.extend.new.rows
      w.in_ok-extend.ensures.rows)
  | extend_at-else-branch w ↦
      let fits = rw w.if-branch.false at c.in_ok-bind_atom.ensures.bound in
      rw w.rows-is (adds_refused c.args.index.now c.args.head.now c.args.atom c.args.rest.now
      c.args.bindings.now.items c.args.fact
      fits.1 c.args.rows.now)
]

pub extend_at-extend-requires : goal.extend_at-extend-requires
extend_at-extend-requires t c =
    let fits = rw c.if-branch.true at c.in_ok-bind_atom.ensures.bound in (
      omega arith,
      (
        covered_rest c.args.bindings.now.items c.bind_atom.new.bindings.items c.args.atom
            c.args.fact c.args.rest.now c.args.head.now fits.0 c.requires.covered,
        c.requires.wide,
      ),
    )

pub extend-extend_at-requires : goal.extend-extend_at-requires
extend-extend_at-requires t c =
    let covered : HeadIsCovered c.args.bindings.now.items (c.in-Some.atom.now ∷ c.in-Some.rest.now)
    c.args.head.now = rw c.in-Some.ensures.cases.0 at c.requires.covered in (
      omega (arith, c.in-Some.ensures.cases.1),
      (
        subst (λ (bs : List Binding).
            HeadIsCovered bs (c.in-Some.atom.now ∷ c.in-Some.rest.now) c.args.head.now)
            (sym c.loop-fact.invariant.same) covered,
        c.requires.wide ∙ sym c.loop-fact.invariant.added.wide,
      ),
    )

pub extend-returns-in_default-clause-rows : goal.extend-returns-in_default-clause-rows
extend-returns-in_default-clause-rows t c =
    let empty : c.args.body.now ≡ [] = nil_from_length c.args.body.now c.in_default.ensures.cases in
    let covered : HeadIsCovered c.args.bindings.now.items [] c.args.head.now =
    rw empty at c.requires.covered in
    let bound : AllByRecursion (IsAssigned c.args.bindings.now.items) c.args.head.now =
    all_weaker (IsCovered c.args.bindings.now.items []) (IsAssigned c.args.bindings.now.items)
    (λ x h. h) c.args.head.now covered in
    let is = rw c.as_slice.ensures.value at c.is_assigned.ensures in
    let b = is.1 bound in
    cc
