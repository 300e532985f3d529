use Rattle.std.proofs.Common.{List, map, arith, subst}
use Rattle.std.proofs.lemmas.Option.{slice_get_within}
use Rattle.dl_syntax.specs.declared.names.IndId.{IndId}
use Rattle.dl_syntax.specs.declared.facts.Element.TheVariants.{Ind as ind_element}
use Rattle.dl_syntax.specs.declared.facts.Fact.{Fact}
use Rattle.query_unify.specs.Laws.{Gives}
use Rattle.query_unify.specs.Normal.{normalise}
use Rattle.query_unify.proofs.NormalForm.{normal_gives_same}
use Rattle.proof_search.specs.Walk.{HasSteps}
use Rattle.proof_search.proofs.Alike.{gives_more, matched_more}
use Rattle.proof_search.proofs.Linked.{given_at}
use Rattle.proof_search.proofs.Members.{not_certain, member_matched, fact_kept}
use Rattle.proof_search.proofs.search.find_walk.Goals as goal

pub returns-in_default-clause-exact : goal.returns-in_default-clause-exact
returns-in_default-clause-exact c =
    let none = rw (c.in_default.is, c.as_slice-members.ensures.keys) at c.in_ok-place.ensures in
    not_certain c.args.ontology.now c.args.cq.now c.args.facts.now c.args.row.now
    c.args.reached.now.found.keys c.requires.over c.requires.declared c.requires.rewriting.all
    (λ q there given. none q there (gives_more q c.args.facts.now c.args.index.now c.args.row.now
    (λ f inside. (c.requires.same f).1 inside) given))

pub bounds-members-place : goal.bounds-members-place
bounds-members-place c =
    let found = rw c.in-Some.is at c.in_ok-place.ensures in
    slice_get_within c.as_slice-members.result.now c.in-Some.place found.0 found.1

pub go_all-requires-clause-within : goal.go_all-requires-clause-within
go_all-requires-clause-within c =
    let found = rw c.in-Some.is at c.in_ok-place.ensures in
    let matched = member_matched c.as_slice-members.result.now c.args.reached.now.found.keys
    c.in-Some.place found.0 c.index-members-place.result c.args.facts.now c.args.row.now
    c.in-Some.bindings.items c.as_slice-members.ensures.keys found.1
    (matched_more found.0 c.args.index.now c.args.facts.now c.args.row.now
    c.in-Some.bindings.items (λ f inside. (c.requires.same f).0 inside) found.2)
    c.index-members-place.is in
    slice_get_within c.args.reached.now.found.keys c.in-Some.place c.index-members-place.result
    matched.0

pub go_all-requires-clause-gives : goal.go_all-requires-clause-gives
go_all-requires-clause-gives c =
    let found = rw c.in-Some.is at c.in_ok-place.ensures in
    let matched = member_matched c.as_slice-members.result.now c.args.reached.now.found.keys
    c.in-Some.place found.0 c.index-members-place.result c.args.facts.now c.args.row.now
    c.in-Some.bindings.items c.as_slice-members.ensures.keys found.1
    (matched_more found.0 c.args.index.now c.args.facts.now c.args.row.now
    c.in-Some.bindings.items (λ f inside. (c.requires.same f).0 inside) found.2)
    c.index-members-place.is in
    given_at c.args.reached.now.found.keys c.in-Some.place c.index-members-place.result
    (λ q. Gives q c.in_ok-walk.walk.known.items
    (map (λ (i : IndId). ind_element i) c.args.row.now)) matched.0
    (c.in_ok-walk.ensures.known c.args.row.now (rw c.as_slice.ensures.value matched.1))

pub go_all-requires-clause-kept : goal.go_all-requires-clause-kept
go_all-requires-clause-kept c = λ f there.
    let found = rw c.in-Some.is at c.in_ok-place.ensures in
    let matched = member_matched c.as_slice-members.result.now c.args.reached.now.found.keys
    c.in-Some.place found.0 c.index-members-place.result c.args.facts.now c.args.row.now
    c.in-Some.bindings.items c.as_slice-members.ensures.keys found.1
    (matched_more found.0 c.args.index.now c.args.facts.now c.args.row.now
    c.in-Some.bindings.items (λ f inside. (c.requires.same f).0 inside) found.2)
    c.index-members-place.is in
    fact_kept c.args.ontology.now c.args.facts.now c.in_ok-walk.walk.run.items c.requires.over
    c.in_ok-walk.ensures.run f
    (c.in_ok-walk.ensures.within c.args.row.now (rw c.as_slice.ensures.value matched.1) f there)

pub returns-clause-exact : goal.returns-clause-exact
returns-clause-exact c = record {
  steps = subst (λ (r : List Fact). HasSteps c.args.ontology.now r
      c.go_all.new.walk.steps.items c.go_all.new.walk.run.items) c.in_ok-walk.ensures.run
      c.in_ok-go_all.ensures.steps;
  kept = c.in_ok-go_all.ensures.kept;
  gives = (normal_gives_same c.args.cq.now c.go_all.new.walk.known.items
      (map (λ (i : IndId). ind_element i) c.args.row.now)).0
      (c.in_ok-go_all.ensures.gives (normalise c.args.cq.now) c.requires.rewriting.first);
}

pub returns-clause-short : goal.returns-clause-short
returns-clause-short c =
    let found = rw c.in-Some.is at c.in_ok-place.ensures in
    let matched = member_matched c.as_slice-members.result.now c.args.reached.now.found.keys
    c.in-Some.place found.0 c.index-members-place.result c.args.facts.now c.args.row.now
    c.in-Some.bindings.items c.as_slice-members.ensures.keys found.1
    (matched_more found.0 c.args.index.now c.args.facts.now c.args.row.now
    c.in-Some.bindings.items (λ f inside. (c.requires.same f).0 inside) found.2)
    c.index-members-place.is in
    omega (
      arith,
      c.in_ok-go_all.ensures.few,
      slice_get_within c.args.reached.now.found.keys c.in-Some.place c.index-members-place.result
          matched.0,
    )
