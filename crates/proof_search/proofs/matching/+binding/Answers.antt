use Rattle.std.proofs.Common.{◌≡◌, ◌+◌, ◌∷◌, ◌++◌, [], ℕ, take, ◌∙◌, arith, get_or}
use Rattle.std.proofs.lemmas.Grind.{common_steps}
use Rattle.std.proofs.lemmas.List.{take_more}
use Rattle.std.proofs.lemmas.List.Elements.{Contains-get_or}
use Rattle.dl_syntax.specs.declared.facts.Element.TheVariants as element
use Rattle.dl_syntax.specs.declared.facts.Fact.{Fact}
use Rattle.dl_syntax.specs.declared.facts.Fact.TheVariants as fact
use Rattle.proof_search.specs.Known.{facts_in, IsComplete}
use Rattle.proof_search.proofs.Matched.{apart_more, match_among, binds_from, binds_first}
use Rattle.proof_search.proofs.Matched.{match_bound, match_refused}
use Rattle.proof_search.proofs.matching.+binding.Goals as goal

abbrev no_fact : Fact
no_fact = fact.Concept (record { 0 = 0 }) (element.Ind (record { 0 = 0 }))

pub bind_body-returns-then-branch-clause-found : goal.bind_body-returns-then-branch-clause-found
bind_body-returns-then-branch-clause-found t c =
    let i : ℕ = c.loop-fact.fact-index in
    let items = c.candidates-fact-items.result.now in
    let found = rw c.if-branch.true at c.in_ok-bind_first.ensures.found in
    let bound = rw c.loop-fact.invariant.same at found.0 in
    rw c.in-Some.ensures.cases.0 (
      binds_from (facts_in c.args.known.now) c.in-Some.atom.now c.in-Some.rest.now
          c.args.bindings.now.items (get_or items i no_fact) c.bind_first.new.bindings.items
          (c.candidates-fact-items.ensures.within (get_or items i no_fact)
          (Contains-get_or items i no_fact c.loop-fact-test.true)) bound,
      tt,
    )

pub bind_body-loop-fact-preserved : goal.bind_body-loop-fact-preserved
bind_body-loop-fact-preserved t c =
    let i : ℕ = c.loop-fact.fact-index in
    let items = c.candidates-fact-items.result.now in
    let more : take (i + 1) items ≡ take i items ++ get_or items i no_fact ∷ [] =
    take_more items i no_fact c.loop-fact-test.true in
    let found = rw c.if-branch.false at c.in_ok-bind_first.ensures.found in
    let apart = rw c.loop-fact.invariant.same at found.1 in
    let same = rw c.if-branch.false at c.in_ok-bind_first.ensures.same in
    record {
      same = same ∙ c.loop-fact.invariant.same;
      apart = rw more (apart_more (facts_in c.args.known.now) c.in-Some.atom.now c.in-Some.rest.now
          c.args.bindings.now.items (take i items) (get_or items i no_fact)
          c.loop-fact.invariant.apart apart);
    }

pub bind_body-returns-clause-found : goal.bind_body-returns-clause-found
bind_body-returns-clause-found t c =
    let items = c.candidates-fact-items.result.now in
    let whole : take c.loop-fact.fact-index items ≡ items = grind (arith, common_steps) in
    let complete : IsComplete c.args.bindings.now.items c.in-Some.atom.now
    (facts_in c.args.known.now) items =
    rw c.as_slice.ensures.value at c.candidates-fact-items.ensures.complete in
    rw c.in-Some.ensures.cases.0 (
      tt,
      λ m. (rw whole at c.loop-fact.invariant.apart)
          (match_among (facts_in c.args.known.now) c.in-Some.atom.now c.in-Some.rest.now
          c.args.bindings.now.items items complete m),
    )

pub bind_first-returns-then-not-branch-clause-found :
    goal.bind_first-returns-then-not-branch-clause-found
bind_first-returns-then-not-branch-clause-found t c =
    let fits = rw c.if-not-branch.true at c.in_ok-bind_atom.ensures.bound in (
      tt,
      match_refused (facts_in c.args.known.now) c.args.atom c.args.rest.now
          c.args.bindings.now.items
          c.args.fact fits.1,
    )

pub bind_first-returns-then-not-branch-2-clause-found :
    goal.bind_first-returns-then-not-branch-2-clause-found
bind_first-returns-then-not-branch-2-clause-found t c =
    let fits = rw c.if-not-branch.false at c.in_ok-bind_atom.ensures.bound in
    let found = rw c.if-not-branch-2.true at c.in_ok-bind_body.ensures.found in (
      tt,
      λ m. found.1 (match_bound (facts_in c.args.known.now) c.args.atom c.args.rest.now
          c.args.bindings.now.items c.args.fact c.bind_atom.new.bindings.items fits.0 m),
    )

pub bind_first-returns-clause-found : goal.bind_first-returns-clause-found
bind_first-returns-clause-found t c =
    let fits = rw c.if-not-branch.false at c.in_ok-bind_atom.ensures.bound in
    let found = rw c.if-not-branch-2.false at c.in_ok-bind_body.ensures.found in (
      binds_first (facts_in c.args.known.now) c.args.atom c.args.rest.now c.args.bindings.now.items
          c.args.fact c.bind_atom.new.bindings.items c.bind_body.new.bindings.items fits.0 found.0,
      tt,
    )
