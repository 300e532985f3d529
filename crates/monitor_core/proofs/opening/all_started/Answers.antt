use Rattle.std.proofs.Common.{◌+◌, ◌++◌, [], ◌∷◌, List, take, sym, subst}
use Rattle.std.specs.Prelude.{true}
use Rattle.std.proofs.lemmas.Slice.Zip.{all_zipped_more}
use Rattle.tcq_syntax.specs.Tcq.{Tcq}
use Rattle.progression.specs.declared.kept.Kept.{Kept}
use Rattle.monitor_core.specs.Keeping.{IsFresh, AllFresh}
use Rattle.monitor_core.proofs.Askable.{taken_more}
use Rattle.monitor_core.proofs.opening.all_started.Goals as goal

pub loop-query-preserved : goal.loop-query-preserved
loop-query-preserved c =
    let queries = c.args.queries.now in
    let i = c.loop-query._query-index in
    subst (λ (ks : List Kept). AllFresh (take (i + 1) queries) ks) (sym c.in_ok-push.ensures.items)
    (subst (λ (qs : List Tcq). AllFresh qs (c.loop-query.kept.items ++ c.start.result ∷ []))
    (sym (taken_more queries i c._query-item.result c.loop-query-test.true c._query-item.is))
    (all_zipped_more IsFresh (take i queries) c.loop-query.kept.items c._query-item.result
    c.start.result c.loop-query.invariant
    (record {
      counted = (c.start.ensures.stands [] 0 c._query-item.result true).counted;
      fits =
          c.start.ensures.fits c._query-item.result;
      stands =
          λ inclusions slots closed.
          c.start.ensures.stands inclusions slots c._query-item.result closed;
    })))
