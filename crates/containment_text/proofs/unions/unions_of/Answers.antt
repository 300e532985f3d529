use Rattle.std.proofs.Common.{◌≡◌, ◌≤◌, ◌+◌, ◌-◌, ◌++◌, [], ◌∷◌, List, suc, take, drop, sym, ◌∙◌}
use Rattle.std.proofs.Common.{subst, arith}
use Rattle.std.specs.Prelude.{Vec}
use Rattle.std.specs.Global.{Global}
use Rattle.std.proofs.lemmas.Slice.Zip.{all_zipped_more}
use Rattle.dl_syntax.specs.declared.queries.Cq.{Cq}
use Rattle.tcq_syntax.specs.Tcq.{Tcq}
use Rattle.progression.specs.Tables.{leaves_of}
use Rattle.perfect_ref.specs.Counting.{ReachAll, ReachMore}
use Rattle.monitor_core.specs.Opening.{all_leaves}
use Rattle.monitor_core.proofs.Askable.{taken_more, all_leaves_parted, all_leaves_taken}
use Rattle.perfect_ref.proofs.Counting.{more_first, more_later, all_joined}
use Rattle.containment_text.specs.Containments.{IsUnionOf, AreUnionsOf}
use Rattle.containment_text.proofs.unions.unions_of.Goals as goal

pub returns-in-Err-clause-many : goal.returns-in-Err-clause-many
returns-in-Err-clause-many c = λ is.
    let queries = c.args.queries.now in
    let i = c.loop-query.query-index in
    let q = c.query-item.result in
    let more : ReachMore c.args.rewriter.now (leaves_of q.nodes)
    (c.args.room - c.loop-query.unions.reached) = c.union_of.ensures.many (c.in-Err.is ∙ cc) in
    subst (λ (qs : List Cq). ReachMore c.args.rewriter.now qs c.args.room)
    (sym (all_leaves_parted queries i q c.loop-query-test.true c.query-item.is))
    (more_later c.args.rewriter.now (all_leaves (take i queries))
    (leaves_of q.nodes ++ all_leaves (drop (suc i) queries)) c.loop-query.unions.reached
    c.args.room c.loop-query.invariant.all c.loop-query.invariant.few
    (more_first c.args.rewriter.now (leaves_of q.nodes) (all_leaves (drop (suc i) queries))
    (c.args.room - c.loop-query.unions.reached) more))

pub loop-query-preserved : goal.loop-query-preserved
loop-query-preserved c =
    let e = c.args.rewriter.now in
    let queries = c.args.queries.now in
    let i = c.loop-query.query-index in
    let q = c.query-item.result in
    let next : take (i + 1) queries ≡ take i queries ++ q ∷ [] =
    taken_more queries i q c.loop-query-test.true c.query-item.is in
    let few : c.in-Ok.counted.reached ≤ c.args.room - c.loop-query.unions.reached =
    c.in-Ok.ensures.few in
    let within : c.loop-query.unions.reached ≤ c.args.room = c.loop-query.invariant.few in
    record {
      few = omega arith;
      each = subst (λ (us : List (Vec Cq Global)).
          AreUnionsOf e (take (i + 1) queries) us) (sym c.in-Ok-push.ensures.items)
          (subst (λ (qs : List Tcq).
          AreUnionsOf e qs (c.loop-query.unions.each.items ++ c.in-Ok.counted.members ∷ []))
          (sym next)
          (all_zipped_more (IsUnionOf e) (take i queries) c.loop-query.unions.each.items q
          c.in-Ok.counted.members c.loop-query.invariant.each c.in-Ok.ensures.union));
      all = subst (λ (qs : List Cq).
          ReachAll e qs (c.loop-query.unions.reached + c.in-Ok.counted.reached))
          (sym (all_leaves_taken queries i q c.loop-query-test.true c.query-item.is))
          (all_joined e (all_leaves (take i queries)) (leaves_of q.nodes)
          c.loop-query.unions.reached c.in-Ok.counted.reached c.loop-query.invariant.all
          c.in-Ok.ensures.all);
    }
