use Rattle.std.proofs.Common.{arith}
use Rattle.dl_syntax.specs.contracts.ontology.BasicEq.TheImpl.Laws as equal_basics
use Rattle.saturate.proofs.Arrows.{never_more}
use Rattle.saturate.proofs.FactImplied.{basic_exact}
use Rattle.saturate.proofs.graph.Graph.above.Goals as goal

pub unreachable-requires : goal.unreachable-requires
unreachable-requires c = never_more _ equal_basics.laws-law basic_exact c.args.self.now c.args.start
    4294967295 (omega arith) (c.closure.ensures.many (cc))
