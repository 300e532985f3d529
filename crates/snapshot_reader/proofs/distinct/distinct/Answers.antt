use Rattle.std.proofs.Common.{arith}
use Rattle.snapshot_reader.proofs.DistinctFacts.{short_distinct}
use Rattle.snapshot_reader.proofs.distinct.distinct.Goals as goal

pub returns-then-len-le1 : goal.returns-then-len-le1
returns-then-len-le1 c = short_distinct c.args.facts.items (omega arith)
