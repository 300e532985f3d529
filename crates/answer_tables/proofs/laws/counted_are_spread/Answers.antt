use Rattle.answer_tables.proofs.CountedRuns.{counted_spread}
use Rattle.answer_tables.proofs.laws.counted_are_spread.Goals as goal

pub returns : goal.returns
returns c = counted_spread
