use Rattle.std.proofs.Common.{◌≡◌, ◌++◌, get_or, sym, ◌∙◌, ap, arith}
use Rattle.std.proofs.lemmas.Option.{get_or_from_slice_get}
use Rattle.report_text.proofs.Pieces.{piece_more, kept_first}
use Rattle.report_text.specs.Lines.{answer_text}
use Rattle.report_text.proofs.line.append_answers.Goals as goal

pub returns-in_err-append_answer-clause-kept : goal.returns-in_err-append_answer-clause-kept
returns-in_err-append_answer-clause-kept c =
    kept_first _ _ c.loop-place.out.items c.append_answer.new.out.items _ _ c.args.out.now.ok.0
    c.loop-place.out.ok.0 c.loop-place.invariant c.in_err-append_answer.ensures.kept

pub loop-place-preserved : goal.loop-place-preserved
loop-place-preserved c =
    let names = c.args.ontology.now.individuals in
    let row = c.row.result.now in
    let is : get_or c.args.rows.now.rows c.loop-place.place row ≡ row =
    get_or_from_slice_get c.args.rows.now.rows c.loop-place.place row row c.row.ensures in
    c.in_ok-append_answer.ensures.ok
    ∙ (ap (λ r. c.loop-place.out.items ++ answer_text names c.args.query.now r) (sym is)
    ∙ piece_more (answer_text names c.args.query.now) c.args.rows.now.rows c.loop-place.place row
    c.args.out.now.items c.loop-place.out.items (omega arith) c.loop-place.invariant)
