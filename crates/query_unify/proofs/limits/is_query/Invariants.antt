use Rattle.std.proofs.Common.{take}
use Rattle.std.specs.List.{All}
use Rattle.dl_syntax.specs.Queries.{IsBound}
use Rattle.query_unify.proofs.limits.is_query.Given as goal

abbrev pub invariant-loop-term : goal.invariant-loop-term
invariant-loop-term l = All (IsBound l.cq.body) (take l.term-index l.cq.head)
