use Rattle.std.proofs.Common.{◌++◌, ap, ◌∙◌}
use Rattle.std.proofs.lemmas.Result.{on_ok_weaker}
use Rattle.report_text.specs.Rows.{answer_detail}
use Rattle.report_text.proofs.RowTexts.{answer_row_is}
use Rattle.report_text.proofs.row.append_answer_row.Goals as goal

pub returns-clause-ok : goal.returns-clause-ok
returns-clause-ok c =
    let names = c.args.ontology.now.individuals in
    on_ok_weaker c.append_detail.result
    (λ is. is
    ∙ ap (λ t. c.args.out.now.items ++ (t ++ answer_detail names c.args.row.now))
    (c.as_slice.ensures.value ∙ c.answer_front_of-front.ensures)
    ∙ ap (λ t. c.args.out.now.items ++ t)
    (answer_row_is names c.args.line c.args.number c.args.query.now c.args.row.now
    c.ranges.line.fits c.ranges.number.fits c.requires.spelled c.individuals_are_spelled.ensures
    c.requires.named))
    c.append_detail.ensures.ok
