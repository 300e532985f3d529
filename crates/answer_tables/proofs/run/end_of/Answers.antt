use Rattle.std.proofs.Common.{arith, sym}
use Rattle.answer_tables.proofs.UnitRuns.{end_last}
use Rattle.answer_tables.proofs.run.end_of.Goals as goal

pub returns-else-count-eq0 : goal.returns-else-count-eq0
returns-else-count-eq0 c = let some = c.if-count-eq0.false in
    sym (end_last 0 c.args.runs.now (record { end = 0; link = 0 }) (omega (arith, some)))
