use Rattle.std.proofs.Common.{◌≡◌, ◌+◌, drop, length}
use Rattle.std.specs.Vec.Iter.{into_iter_items, into_iter_len}
use Rattle.progression.specs.Tables.{AreKeptOf}
use Rattle.progression.proofs.keep.kept_tables.Given as goal

abbrev pub invariant-loop-table : goal.invariant-loop-table
invariant-loop-table l = record {
  rest : into_iter_items l.table-iterator ≡ drop l.place l.fn.tables.items;
  left : into_iter_len l.table-iterator + l.place ≡ length l.fn.tables.items;
  kept : AreKeptOf l.query.nodes l.place l.fn.tables.items l.kept.items;
}
