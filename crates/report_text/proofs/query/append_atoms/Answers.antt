use Rattle.report_text.proofs.Pieces.{kept_first}
use Rattle.report_text.proofs.query.append_atoms.Goals as goal

pub returns-in_err-append_next_atom-clause-kept : goal.returns-in_err-append_next_atom-clause-kept
returns-in_err-append_next_atom-clause-kept c =
    kept_first _ _ c.loop-atom.out.items c.append_next_atom.new.out.items _ _ c.args.out.now.ok.0
    c.loop-atom.out.ok.0 c.loop-atom.invariant c.in_err-append_next_atom.ensures.kept
