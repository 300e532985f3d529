use Rattle.std.proofs.Common.{◌≡◌, ◌++◌, get_or, sym, ◌∙◌, ap, arith}
use Rattle.std.proofs.lemmas.List.Elements.{All-get_or}
use Rattle.std.proofs.lemmas.Option.{get_or_from_slice_get}
use Rattle.report_text.specs.Names.{IsNamed}
use Rattle.report_text.specs.Rows.{answer_row, answer_detail}
use Rattle.report_text.proofs.Pieces.{piece_more, kept_first}
use Rattle.report_text.proofs.RowTexts.{answer_row_is}
use Rattle.report_text.proofs.row.append_answer_rows.Goals as goal

pub returns-in_err-append_detail-clause-kept : goal.returns-in_err-append_detail-clause-kept
returns-in_err-append_detail-clause-kept c =
    kept_first _ _ c.loop-place.out.items c.append_detail.new.out.items _ _ c.args.out.now.ok.0
    c.loop-place.out.ok.0 c.loop-place.invariant c.in_err-append_detail.ensures.kept

pub loop-place-preserved : goal.loop-place-preserved
loop-place-preserved c =
    let names = c.args.ontology.now.individuals in
    let rows = c.args.rows.now.rows in
    let row = c.row.result.now in
    let answer = answer_row names c.args.line c.args.number c.args.query.now in
    let is : get_or rows c.loop-place.place row ≡ row =
    get_or_from_slice_get rows c.loop-place.place row row c.row.ensures in
    let named = All-get_or (IsNamed c.args.ontology.now) rows c.loop-place.place row (omega arith)
    c.requires.named in
    c.in_ok-append_detail.ensures.ok
    ∙ (ap (λ front. c.loop-place.out.items ++ (front ++ answer_detail names row))
    (c.as_slice.ensures.value ∙ c.answer_front_of-front.ensures)
    ∙ (ap (λ text. c.loop-place.out.items ++ text)
    (answer_row_is names c.args.line c.args.number c.args.query.now row c.ranges.line.fits
    c.ranges.number.fits c.requires.spelled c.individuals_are_spelled.ensures (rw is at named))
    ∙ (ap (λ r. c.loop-place.out.items ++ answer r) (sym is) ∙ piece_more answer rows
    c.loop-place.place row c.args.out.now.items c.loop-place.out.items (omega arith)
    c.loop-place.invariant)))
