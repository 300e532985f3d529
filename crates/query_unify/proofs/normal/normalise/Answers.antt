use Rattle.std.proofs.Common.{arith}
use Rattle.query_unify.proofs.Bound.{variables-few}
use Rattle.query_unify.proofs.normal.normalise.Goals as goal

pub numbered_query-requires : goal.numbered_query-requires
numbered_query-requires c = omega (arith, variables-few c.args.cq.now c.requires)
