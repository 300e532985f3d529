use Rattle.std.proofs.Common.{refl, arith}
use Rattle.report_text.proofs.Pieces.{kept_still}
use Rattle.report_text.proofs.ObjectTexts.{row_more}
use Rattle.report_text.proofs.object.append_rows.Goals as goal

pub loop-place-preserved : goal.loop-place-preserved
loop-place-preserved c = (
  kept_still c.args.out.now.items c.loop-place.out.items _ _ _ refl c.loop-place.out.ok.0
      c.loop-place.invariant.0 c.in_ok-append_next_row.ensures.kept,
  row_more c.args.ontology.now.individuals c.loop-place.place c.loop-place.out.items _ _
      c.args.rows.now.rows c.row.result.now (omega arith) c.row.ensures c.loop-place.invariant.1
      c.in_ok-append_next_row.ensures.ok,
)
