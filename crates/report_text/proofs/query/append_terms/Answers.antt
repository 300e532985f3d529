use Rattle.report_text.proofs.Pieces.{kept_first}
use Rattle.report_text.proofs.query.append_terms.Goals as goal

pub returns-in_err-append_next_term-clause-kept : goal.returns-in_err-append_next_term-clause-kept
returns-in_err-append_next_term-clause-kept c =
    kept_first _ _ c.loop-term.out.items c.append_next_term.new.out.items _ _ c.args.out.now.ok.0
    c.loop-term.out.ok.0 c.loop-term.invariant c.in_err-append_next_term.ensures.kept
