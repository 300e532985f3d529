use Rattle.text_scan.proofs.LinesRead.{line_first}
use Rattle.text_scan.proofs.lines.line_at.Goals as goal

pub returns-clause-line : goal.returns-clause-line
returns-clause-line c = line_first c.args.from c.line_end-end.result c.args.text.now c.requires
    c.line_end-end.ensures.end
