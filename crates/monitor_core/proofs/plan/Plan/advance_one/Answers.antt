use Rattle.std.proofs.Common.{◌≡◌, ◌<◌, ℕ, List, length, sym, subst, arith}
use Rattle.std.specs.Prelude.{Some, slice_get, Vec}
use Rattle.std.specs.Global.{Global}
use Rattle.std.specs.List.{All, AllZip}
use Rattle.tcq_syntax.specs.Tcq.{Tcq}
use Rattle.progression.specs.Kept.{AreOverLeaves}
use Rattle.monitor_core.specs.Leaves.{StandsAt}
use Rattle.monitor_core.specs.Advancing.{Advances}
use Rattle.monitor_core.proofs.OneQuery.{has_places, read_in, query_at, few, over, advances}
use Rattle.monitor_core.proofs.OneQuery.{within_leaves, answered_at, if_all_ok}
use Rattle.monitor_core.proofs.plan.Plan.advance_one.Goals as goal

pub bounds-places-place : goal.bounds-places-place
bounds-places-place c = subst (λ (ks : List (Vec ℕ Global)).
    c.args.place < length ks) (sym c.as_slice-places.ensures.value)
    (has_places c.args.self.now c.requires.plan c.args.place c.requires.within)

pub relations_at-requires : goal.relations_at-requires
relations_at-requires c =
    subst (All (λ (k : ℕ). k < length c.args.moment.now.relations.now))
    (sym c.as_slice.ensures.value)
    (within_leaves c.args.self.now c.requires.plan c.args.place c.requires.within
    c.index-query.result.now c.index-query.ensures c.index-places-place.result
    (read_in c.as_slice-places.result.now c.args.self.now.places.items c.args.place
    c.index-places-place.result c.as_slice-places.ensures.value c.index-places-place.is)
    c.args.moment.now.relations.now c.requires.relations)

pub advance-next-requires-clause-fits : goal.advance-next-requires-clause-fits
advance-next-requires-clause-fits c =
    c.requires.fits c.index-query.result.now
    (query_at c.args.self.now c.requires.plan c.args.place c.requires.within
    c.index-query.result.now c.index-query.ensures)

pub advance-next-requires-clause-within : goal.advance-next-requires-clause-within
advance-next-requires-clause-within c =
    omega (arith, c.requires.plan.counted, c.count-individuals.ensures.count)

pub advance-next-requires-clause-few : goal.advance-next-requires-clause-few
advance-next-requires-clause-few c =
    few c.args.self.now c.requires.plan c.args.place c.requires.within c.index-query.result.now
    c.index-query.ensures

pub advance-next-requires-clause-leaves : goal.advance-next-requires-clause-leaves
advance-next-requires-clause-leaves c =
    let plan = c.args.self.now in
    let query = c.index-query.result.now in
    let facts = c.requires.relations.0 in
    let stand : AllZip (StandsAt c.args.moment.now.relations.now) c.index-places-place.result.items
    c.in_ok-leaves.leaves.items =
    subst (λ (ks : List ℕ). AllZip (StandsAt c.args.moment.now.relations.now) ks
    c.in_ok-leaves.leaves.items) c.as_slice.ensures.value c.in_ok-leaves.ensures in
    subst (AreOverLeaves query) (sym c.as_slice-asked.ensures.value)
    (over plan c.requires.plan c.args.place c.requires.within query c.index-query.ensures facts
    c.in_ok-leaves.leaves.items
    (answered_at plan c.requires.plan c.args.place c.requires.within query c.index-query.ensures
    c.index-places-place.result (read_in c.as_slice-places.result.now plan.places.items
    c.args.place c.index-places-place.result c.as_slice-places.ensures.value
    c.index-places-place.is) facts c.args.moment.now.relations.now c.in_ok-leaves.leaves.items
    c.requires.relations.1 stand))

pub returns : goal.returns
returns c =
    let plan = c.args.self.now in
    let query = c.index-query.result.now in
    let found = c.as_slice-asked.result.now in
    let stand_all : AllZip (StandsAt c.args.moment.now.relations.now)
    c.index-places-place.result.items c.in_ok-leaves.leaves.items =
    subst (λ (ks : List ℕ). AllZip (StandsAt c.args.moment.now.relations.now) ks
    c.in_ok-leaves.leaves.items) c.as_slice.ensures.value c.in_ok-leaves.ensures in
    let stand : AllZip (StandsAt c.args.moment.now.relations.now) c.index-places-place.result.items
    found = subst (AllZip (StandsAt c.args.moment.now.relations.now)
    c.index-places-place.result.items) (sym c.as_slice-asked.ensures.value) stand_all in
    if_all_ok _ _ _ _ _ (λ r fits counted rows steps facts other answers there.
    let at : slice_get plan.queries.items c.args.place ≡ Some query =
    query_at plan c.requires.plan c.args.place c.requires.within query c.index-query.ensures in
    let same : query ≡ other = cc in
    subst (λ (q : Tcq). Advances plan.ontology plan.slots plan.sight q facts c.args.kept.now r.0
    r.1) same
    (advances plan c.requires.plan c.args.place c.requires.within query c.index-query.ensures facts
    found
    (answered_at plan c.requires.plan c.args.place c.requires.within query c.index-query.ensures
    c.index-places-place.result (read_in c.as_slice-places.result.now plan.places.items
    c.args.place c.index-places-place.result c.as_slice-places.ensures.value
    c.index-places-place.is) facts c.args.moment.now.relations.now found answers stand)
    c.count-individuals.result c.count-individuals.ensures.count c.args.kept.now r.0 r.1 fits
    counted rows steps))
    c.advance-next.result c.advance-next.ensures.fits c.advance-next.ensures.count
    c.advance-next.ensures.rows c.advance-next.ensures.advances
