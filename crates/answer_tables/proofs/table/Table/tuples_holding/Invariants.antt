use Rattle.std.proofs.Common.{◌^◌}
use Rattle.antichains.specs.Sets.{holds}
use Rattle.answer_tables.specs.Table.{antichain_at}
use Rattle.answer_tables.proofs.Runs.{Rest}
use Rattle.answer_tables.proofs.Listing.{Gathers}
use Rattle.answer_tables.proofs.table.Table.tuples_holding.Given as goal

abbrev pub invariant-loop-place : goal.invariant-loop-place
invariant-loop-place l = record {
  gathers : Gathers l.self-inside.slots l.bound l.self-inside.arity (λ n.
      holds (antichain_at l.self-inside.links.items l.self-inside.ranks.value n) l.set) l.rows
      l.start;
  rest : Rest l.self-inside.ranks.value l.place l.start (l.self-inside.slots ^ l.self-inside.arity);
}
