use Rattle.std.proofs.Common.{◌≡◌, ◌<◌, ℕ, length, refl, sym, subst, arith}
use Rattle.std.specs.Prelude.{Some, slice_get}
use Rattle.std.proofs.lemmas.Option.{slice_get_read}
use Rattle.checkpoint_reader.specs.Rules.{AtEnd, AtQuery, behind_queries}
use Rattle.checkpoint_reader.specs.Progress.{frame_of}
use Rattle.checkpoint_reader.proofs.Progressing.{same_stage}
use Rattle.checkpoint_reader.proofs.Sections.{at_end, at_query}
use Rattle.checkpoint_reader.proofs.nodes.read_queries.Goals as goal

pub read_query-requires-clause-next : goal.read_query-requires-clause-next
read_query-requires-clause-next c =
    let queries = c.args.job.now.queries.now in
    subst (λ (k : ℕ). slice_get queries k ≡ Some c.query-item.result)
    (sym c.loop-query.invariant.long)
    (slice_get_read queries _ _ _ refl c.loop-query-test.true c.query-item.is)

pub read_query-requires-clause-reached : goal.read_query-requires-clause-reached
read_query-requires-clause-reached c =
    let frame = frame_of c.args.job.now in
    let d = c.loop-query.draft in
    let less : length d.queries < length c.args.job.now.queries.now =
    omega (arith, c.loop-query.invariant.long, c.loop-query-test.true) in
    same_stage c.args.job.now (behind_queries frame d) (AtQuery d) c.loop-query.place
    (at_query frame d less) c.loop-query.invariant.reached

pub returns-clause-ok : goal.returns-clause-ok
returns-clause-ok c =
    let frame = frame_of c.args.job.now in
    let d = c.loop-query.draft in
    let long : length d.queries ≡ length c.args.job.now.queries.now =
    omega (arith, c.loop-query.invariant.long, c.loop-query-test.false) in
    same_stage c.args.job.now (behind_queries frame d) (AtEnd d) c.loop-query.place
    (at_end frame d long) c.loop-query.invariant.reached
