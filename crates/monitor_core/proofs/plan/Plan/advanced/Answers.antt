use Rattle.std.proofs.Common.{◌≡◌, ◌<◌, ◌+◌, ◌++◌, [], ◌∷◌, List, length, take, refl, sym, subst}
use Rattle.std.proofs.Common.{arith}
use Rattle.std.specs.List.{All, AllZip}
use Rattle.std.proofs.lemmas.Option.{slice_get_read}
use Rattle.std.proofs.lemmas.List.{take_all}
use Rattle.std.proofs.lemmas.Slice.Zip.{AllZip-long}
use Rattle.dl_syntax.specs.Rows.{Relation}
use Rattle.tcq_syntax.specs.Tcq.{Tcq}
use Rattle.progression.specs.declared.kept.Kept.{Kept}
use Rattle.progression.specs.Kept.{Fits}
use Rattle.monitor_core.specs.declared.plan.Leaf.{Leaf}
use Rattle.monitor_core.specs.Leaves.{AsksWell, AreUnionAnswers}
use Rattle.monitor_core.specs.Advancing.{AllAdvance}
use Rattle.perfect_ref.specs.Plain.{encoded}
use Rattle.monitor_core.proofs.LeafAnswers.{all_ask_well}
use Rattle.monitor_core.proofs.OneQuery.{element_at, fit_at}
use Rattle.monitor_core.proofs.Advances.{all_advance_more}
use Rattle.monitor_core.proofs.plan.Plan.advanced.Goals as goal

pub advance_one-requires-clause-within : goal.advance_one-requires-clause-within
advance_one-requires-clause-within c =
    let slots = c.args.self.now.slots in
    let queries = c.args.self.now.queries.items in
    let long : length c.args.kept.now ≡ length queries =
    AllZip-long (λ (q : Tcq) (k : Kept).
    Fits q slots k) queries c.args.kept.now c.requires.fits in
    omega (arith, c.loop-place-test.true)

pub advance_one-requires-clause-fits : goal.advance_one-requires-clause-fits
advance_one-requires-clause-fits c = λ query there.
    fit_at c.args.self.now.slots c.args.self.now.queries.items c.args.kept.now c.loop-place.place
    query c.index-kept-place.result c.requires.fits there
    (slice_get_read c.args.kept.now (length c.args.kept.now) c.loop-place.place
    c.index-kept-place.result refl c.loop-place-test.true c.index-kept-place.is)

pub leaf_answers-requires : goal.leaf_answers-requires
leaf_answers-requires c = subst (All AsksWell) (sym c.as_slice.ensures.value)
    (all_ask_well (encoded c.args.self.now.ontology) c.args.self.now.leaves.items
    c.requires.plan.leaves)

pub loop-place-preserved : goal.loop-place-preserved
loop-place-preserved c =
    let o = c.args.self.now.ontology in
    let queries = c.args.self.now.queries.items in
    let kept = c.args.kept.now in
    let facts = c.args.facts.now in
    let i = c.loop-place.place in
    let long : length kept ≡ length queries =
    AllZip-long (λ (q : Tcq) (k : Kept).
    Fits q c.args.self.now.slots k) queries kept c.requires.fits in
    let within : i < length queries = omega (arith, c.loop-place-test.true) in
    let (query, there) = element_at queries i within in
    let leaves = c.args.self.now.leaves.items in
    let found : AllZip (AreUnionAnswers facts) leaves c.in_ok-relations.relations.items =
    subst (λ (ls : List Leaf). AllZip (AreUnionAnswers facts) ls
    c.in_ok-relations.relations.items) c.as_slice.ensures.value c.in_ok-relations.ensures in
    let answers : AllZip (AreUnionAnswers facts) leaves c.as_slice-known.result.now =
    subst (AllZip (AreUnionAnswers facts) leaves) (sym c.as_slice-known.ensures.value) found in
    let more : AllAdvance o c.args.self.now.slots c.args.self.now.sight (take (i + 1) queries)
    facts (take (i + 1) kept)
    (c.loop-place.new.items ++ c.in_ok-k.k ∷ [])
    (c.loop-place.answers.items ++ c.in_ok-k.rows ∷ []) =
    all_advance_more o c.args.self.now.slots c.args.self.now.sight facts queries kept
    c.loop-place.new.items
    c.loop-place.answers.items i query c.index-kept-place.result c.in_ok-k.k c.in_ok-k.rows
    within c.loop-place-test.true there c.index-kept-place.is c.loop-place.invariant
    (c.in_ok-k.ensures facts query answers there) in
    subst (λ (ks : List Kept). AllAdvance o c.args.self.now.slots c.args.self.now.sight
    (take (i + 1) queries) facts
    (take (i + 1) kept) ks c.push-in-loop-place.new.self.items) (sym c.in_ok-push.ensures.items)
    (subst (λ (rs : List Relation). AllAdvance o c.args.self.now.slots c.args.self.now.sight
    (take (i + 1) queries) facts
    (take (i + 1) kept) (c.loop-place.new.items ++ c.in_ok-k.k ∷ []) rs)
    (sym c.in_ok-push-2.ensures.items) more)

pub returns : goal.returns
returns c =
    let o = c.args.self.now.ontology in
    let queries = c.args.self.now.queries.items in
    let kept = c.args.kept.now in
    let facts = c.args.facts.now in
    let i = c.loop-place.place in
    let long : length kept ≡ length queries =
    AllZip-long (λ (q : Tcq) (k : Kept).
    Fits q c.args.self.now.slots k) queries kept c.requires.fits in
    let all : take i queries ≡ queries =
    take_all i queries (omega (arith, c.loop-place-test.false)) in
    let both : take i kept ≡ kept = take_all i kept (omega (arith, c.loop-place-test.false)) in
    subst (λ (qs : List Tcq). AllAdvance o c.args.self.now.slots c.args.self.now.sight qs facts kept
    c.loop-place.new.items c.loop-place.answers.items) all
    (subst (λ (ks : List Kept). AllAdvance o c.args.self.now.slots c.args.self.now.sight
    (take i queries) facts ks
    c.loop-place.new.items c.loop-place.answers.items) both c.loop-place.invariant)
