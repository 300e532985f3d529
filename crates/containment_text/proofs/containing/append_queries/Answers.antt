use Rattle.std.proofs.Common.{◌+◌, take}
use Rattle.containment_text.specs.Containments.{pairs_from, pairs_with}
use Rattle.containment_text.proofs.PairTexts.{more_next, from_more}
use Rattle.containment_text.proofs.containing.append_queries.Goals as goal

pub loop-place-preserved : goal.loop-place-preserved
loop-place-preserved c =
    let queries = c.args.queries.now in
    let place = c.loop-place.place in
    let query = c.index-queries-place.result in
    more_next c.args.source.now.ontology.now (pairs_from queries 0 (take place queries))
    (pairs_with place query 0 queries) (pairs_from queries 0 (take (place + 1) queries))
    c.args.text.now.items c.loop-place.text.items c.append_query.new.text.items
    (from_more queries queries place query c.loop-place-test.true c.index-queries-place.is)
    c.loop-place.invariant c.in_ok-append_query.ensures
