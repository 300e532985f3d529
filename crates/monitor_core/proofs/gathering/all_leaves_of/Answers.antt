use Rattle.std.proofs.Common.{◌≡◌, ℕ, ◌≤◌, ◌+◌, ◌-◌, ◌++◌, [], ◌∷◌, List, suc, take, drop, sym, ◌∙◌}
use Rattle.std.proofs.Common.{subst, arith}
use Rattle.std.specs.Prelude.{Vec}
use Rattle.std.specs.Global.{Global}
use Rattle.std.proofs.lemmas.List.Elements.{All-push}
use Rattle.std.proofs.lemmas.Slice.Zip.{all_zipped_more}
use Rattle.dl_syntax.specs.declared.queries.Cq.{Cq}
use Rattle.tcq_syntax.specs.Tcq.{Tcq, IsTcq}
use Rattle.progression.specs.Tables.{leaves_of}
use Rattle.monitor_core.specs.Planning.{ArePlacesOf, AreAllPlaces, AreTables}
use Rattle.perfect_ref.specs.Counting.{ReachAll, ReachMore}
use Rattle.monitor_core.specs.Opening.{all_leaves}
use Rattle.monitor_core.proofs.Askable.{taken_more, all_leaves_parted, all_leaves_taken}
use Rattle.monitor_core.proofs.Placing.{all_places_kept}
use Rattle.perfect_ref.proofs.Counting.{more_first, more_later, all_joined}
use Rattle.monitor_core.proofs.gathering.all_leaves_of.Goals as goal

pub returns-in-Err-clause-many : goal.returns-in-Err-clause-many
returns-in-Err-clause-many c = λ is.
    let queries = c.args.queries.now in
    let i = c.loop-query.query-index in
    let q = c.query-item.result in
    let more : ReachMore c.args.rewriter.now (leaves_of q.nodes)
    (c.args.room - c.loop-query.all.reached) =
    c.places_of_query.ensures.many (c.in-Err.is ∙ cc) in
    subst (λ (qs : List Cq). ReachMore c.args.rewriter.now qs c.args.room)
    (sym (all_leaves_parted queries i q c.loop-query-test.true c.query-item.is))
    (more_later c.args.rewriter.now (all_leaves (take i queries))
    (leaves_of q.nodes ++ all_leaves (drop (suc i) queries)) c.loop-query.all.reached
    c.args.room c.loop-query.invariant.all c.loop-query.invariant.few
    (more_first c.args.rewriter.now (leaves_of q.nodes) (all_leaves (drop (suc i) queries))
    (c.args.room - c.loop-query.all.reached) more))

pub loop-query-preserved : goal.loop-query-preserved
loop-query-preserved c =
    let e = c.args.rewriter.now in
    let queries = c.args.queries.now in
    let i = c.loop-query.query-index in
    let q = c.query-item.result in
    let old = c.loop-query.all.leaves.items in
    let after = c.places_of_query.new.leaves.items in
    let next : take (i + 1) queries ≡ take i queries ++ q ∷ [] =
    taken_more queries i q c.loop-query-test.true c.query-item.is in
    let few : c.in-Ok.places.reached ≤ c.args.room - c.loop-query.all.reached =
    c.in-Ok.ensures.few in
    let within : c.loop-query.all.reached ≤ c.args.room = c.loop-query.invariant.few in
    record {
      few = omega arith;
      tables = subst AreTables (sym next)
          (All-push (λ (t : Tcq). IsTcq t.vars t.nodes) (take i queries) q
          c.loop-query.invariant.tables c.in-Ok.ensures.table);
      leaves = c.in-Ok.ensures.leaves;
      places = subst (λ (ks : List (Vec ℕ Global)).
          AreAllPlaces e after (take (i + 1) queries) ks) (sym c.in-Ok-push.ensures.items)
          (subst (λ (qs : List Tcq).
          AreAllPlaces e after qs (c.loop-query.all.places.items ++ c.in-Ok.places.each ∷ []))
          (sym next)
          (all_zipped_more (λ (t : Tcq) (ks : Vec ℕ Global).
          ArePlacesOf e after t ks.items) (take i queries) c.loop-query.all.places.items q
          c.in-Ok.places.each
          (all_places_kept e old after c.in-Ok.ensures.kept (take i queries)
          c.loop-query.all.places.items c.loop-query.invariant.places)
          c.in-Ok.ensures.ok.each));
      all = subst (λ (qs : List Cq).
          ReachAll e qs (c.loop-query.all.reached + c.in-Ok.places.reached))
          (sym (all_leaves_taken queries i q c.loop-query-test.true c.query-item.is))
          (all_joined e (all_leaves (take i queries)) (leaves_of q.nodes) c.loop-query.all.reached
          c.in-Ok.places.reached c.loop-query.invariant.all c.in-Ok.ensures.ok.all);
    }
