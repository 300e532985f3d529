use Rattle.answer_tables.proofs.Few.{few_antichains}
use Rattle.answer_tables.proofs.laws.few_antichains.Goals as goal

pub returns : goal.returns
returns c = few_antichains
