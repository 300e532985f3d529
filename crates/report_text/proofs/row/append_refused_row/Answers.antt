use Rattle.std.specs.Prelude.{codes, decimal}
use Rattle.std.proofs.lemmas.Result.{on_ok_weaker}
use Rattle.report_text.specs.Rows.{cause_number}
use Rattle.report_text.proofs.Pieces.{grown_3, kept_first}
use Rattle.report_text.proofs.RowTexts.{refused_row_grown}
use Rattle.report_text.proofs.row.append_refused_row.Goals as goal

pub returns-clause-ok : goal.returns-clause-ok
returns-clause-ok c =
    on_ok_weaker c.append_last_fields.result
    (refused_row_grown c.args.line c.args.cause.now c.ranges.line.fits c.append_count.ensures.small
    c.requires c.args.out.now.items _ _ _ _ _ _ c.in_ok-append_number.ensures.ok
    c.in_ok-extend_from_slice.ensures.items c.in_ok-append_count.ensures.ok c.word_of.ensures
    c.name_of.ensures) c.append_last_fields.ensures.ok

pub returns-clause-kept : goal.returns-clause-kept
returns-clause-kept c =
    kept_first _ _ c.append_count.new.out.items c.append_last_fields.new.out.items _ _
    c.args.out.now.ok.0 c.append_count.new.out.ok.0
    (grown_3 c.args.out.now.items (decimal c.args.line) (codes ",refused,")
    (cause_number c.args.cause.now) _ _ _ c.in_ok-append_number.ensures.ok
    c.in_ok-extend_from_slice.ensures.items c.in_ok-append_count.ensures.ok)
    c.append_last_fields.ensures.kept
