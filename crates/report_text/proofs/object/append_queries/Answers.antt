use Rattle.std.proofs.Common.{◌∙◌, refl, arith}
use Rattle.report_text.proofs.Pieces.{kept_still}
use Rattle.report_text.proofs.ObjectTexts.{query_more}
use Rattle.report_text.proofs.object.append_queries.Goals as goal

pub loop-place-preserved : goal.loop-place-preserved
loop-place-preserved c = (
  kept_still c.args.out.now.items c.loop-place.out.items _ _ _ refl c.loop-place.out.ok.0
      c.loop-place.invariant.0 c.in_ok-append_next_query.ensures.kept,
  query_more c.args.ontology.now.individuals c.loop-place.place c.loop-place.out.items _ _
      c.args.queries.now c.args.kept.now c.args.answers.now c.index-queries-place.result
      c.index-answers-place.result
      _ _ (omega arith) (omega (arith, c.requires.answered.one_each)) c.index-queries-place.is
      c.index-answers-place.is (c.bytes-query.ensures ∙ c.name.ensures) c.size_of-size.ensures
      c.loop-place.invariant.1 c.in_ok-append_next_query.ensures.ok,
)
