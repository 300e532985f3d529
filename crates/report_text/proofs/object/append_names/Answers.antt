use Rattle.std.proofs.Common.{refl, arith}
use Rattle.report_text.proofs.Pieces.{kept_extended, kept_still}
use Rattle.report_text.proofs.ObjectTexts.{name_more}
use Rattle.report_text.proofs.object.append_names.Goals as goal

pub loop-place-preserved : goal.loop-place-preserved
loop-place-preserved c = (
  kept_still c.args.out.now.items c.loop-place.out.items _ _ _ refl c.loop-place.out.ok.0
      c.loop-place.invariant.0 c.in_ok-append_next_name.ensures.kept,
  name_more c.args.ontology.now.individuals c.loop-place.place c.loop-place.out.items _ _
      c.args.row.now _ (omega arith) c.loop-place.invariant.1 c.in_ok-append_next_name.ensures.ok,
)

pub returns-clause-kept : goal.returns-clause-kept
returns-clause-kept c =
    kept_extended c.extend_from_slice.result c.args.out.now.items c.loop-place.out.items _ _ _
    c.args.out.now.ok.0 c.loop-place.invariant.0 c.extend_from_slice.ensures.items
