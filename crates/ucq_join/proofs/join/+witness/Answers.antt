use Rattle.std.proofs.Common.{◌≡◌, ◌+◌, ◌∷◌, ◌++◌, [], ℕ, take, ◌∙◌, arith, get_or, refl}
use Rattle.std.proofs.lemmas.Grind.{common_steps}
use Rattle.std.proofs.lemmas.List.{take_more}
use Rattle.std.proofs.lemmas.List.Elements.{Contains-get_or}
use Rattle.dl_syntax.specs.declared.facts.Element.TheVariants as element
use Rattle.dl_syntax.specs.declared.facts.Fact.{Fact}
use Rattle.dl_syntax.specs.declared.facts.Fact.TheVariants as fact
use Rattle.ucq_join.specs.Partial.{IsComplete}
use Rattle.ucq_join.proofs.Adding.{nil_from_length}
use Rattle.ucq_join.proofs.Witnesses.{apart_more, match_among, match_from, match_bound}
use Rattle.ucq_join.proofs.Witnesses.{match_refused, match_nil}
use Rattle.ucq_join.proofs.join.+witness.Goals as goal
use Rattle.ucq_join.proofs.join.+witness.Goals.{has_match_at-then-branch+in_ok-found}
use Rattle.ucq_join.proofs.join.+witness.Goals.{has_match_at-else-branch}

pub has_match-returns-in_default-clause-found : goal.has_match-returns-in_default-clause-found
has_match-returns-in_default-clause-found t c =
    let empty : c.args.body.now ≡ [] = nil_from_length c.args.body.now c.in_default.ensures.cases in
    rw empty ((λ h. match_nil c.args.index.now c.args.bindings.now.items), (λ h. refl))

pub has_match-loop-fact-preserved : goal.has_match-loop-fact-preserved
has_match-loop-fact-preserved t c =
    let i : ℕ = c.loop-fact.fact-index in
    let items = c.candidates-fact-items.result.now in
    let none : Fact = fact.Concept (record { 0 = 0 }) (element.Ind (record { 0 = 0 })) in
    let more : take (i + 1) items ≡ take i items ++ get_or items i none ∷ [] =
    take_more items i none c.loop-fact-test.true in
    let found = rw c.loop-fact.invariant.same at c.in_ok-has_match_at.ensures.found in
    record {
      same = c.in_ok-has_match_at.ensures.bindings ∙ c.loop-fact.invariant.same;
      apart = rw more (apart_more c.args.index.now c.in-Some.atom.now c.in-Some.rest.now
          c.args.bindings.now.items (take i items) (get_or items i none)
          c.loop-fact.invariant.apart (λ m. let b = found.1 m in cc));
    }

pub has_match-returns-then-branch-clause-found : goal.has_match-returns-then-branch-clause-found
has_match-returns-then-branch-clause-found t c =
    let i : ℕ = c.loop-fact.fact-index in
    let items = c.candidates-fact-items.result.now in
    let none : Fact = fact.Concept (record { 0 = 0 }) (element.Ind (record { 0 = 0 })) in
    let found = rw c.loop-fact.invariant.same at c.in_ok-has_match_at.ensures.found in
    rw c.in-Some.ensures.cases.0 (
      (λ h. match_from c.args.index.now c.in-Some.atom.now c.in-Some.rest.now
          c.args.bindings.now.items items c.candidates-fact-items.ensures.within
          (get_or items i none) (Contains-get_or items i none c.loop-fact-test.true)
          (found.0 c.if-branch.true)),
      (λ m. refl),
    )

pub has_match-returns-clause-found : goal.has_match-returns-clause-found
has_match-returns-clause-found t c =
    let items = c.candidates-fact-items.result.now in
    let whole : take c.loop-fact.fact-index items ≡ items = grind (arith, common_steps) in
    let complete : IsComplete c.args.bindings.now.items c.in-Some.atom.now c.args.index.now items =
    rw c.as_slice.ensures.value at c.candidates-fact-items.ensures.complete in
    rw c.in-Some.ensures.cases.0 (
      (λ h. cc),
      (λ m. absurd ((rw whole at c.loop-fact.invariant.apart)
          (match_among c.args.index.now c.in-Some.atom.now c.in-Some.rest.now
          c.args.bindings.now.items items complete m))),
    )

pub has_match_at-returns-clause-found : goal.has_match_at-returns-clause-found
has_match_at-returns-clause-found t c = elim c.if-branch.branch [
  | has_match_at-then-branch+in_ok-found w ↦
      let fits = rw w.if-branch.true at c.in_ok-bind_atom.ensures.bound in
      let same = match_bound c.args.index.now c.args.atom c.args.rest.now c.args.bindings.now.items
      c.args.fact c.bind_atom.new.bindings.items fits.0 in
      rw w.found-is (
        (λ h. same.0 (w.in_ok-found.ensures.found.0 h)),
        (λ m.
            w.in_ok-found.ensures.found.1 (same.1 m)),
      )
  | has_match_at-else-branch w ↦
      let fits = rw w.if-branch.false at c.in_ok-bind_atom.ensures.bound in
      rw w.found-is (
        (λ h. cc),
        (λ m.
            absurd (match_refused c.args.index.now c.args.atom c.args.rest.now
            c.args.bindings.now.items c.args.fact fits.1 m)),
      )
]
