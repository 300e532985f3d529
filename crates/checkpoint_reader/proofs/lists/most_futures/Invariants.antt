use Rattle.std.proofs.Common.{◌≤◌, take}
use Rattle.checkpoint_reader.proofs.Futures.{IsMost}
use Rattle.checkpoint_reader.proofs.lists.most_futures.Given as goal

abbrev pub invariant-loop-query : goal.invariant-loop-query
invariant-loop-query l = record {
  most : IsMost (take l.query-index l.queries) l.most;
  small : l.most ≤ 8;
}
