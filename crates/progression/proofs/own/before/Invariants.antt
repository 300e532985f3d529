use Rattle.std.proofs.Common.{◌≡◌, drop}
use Rattle.progression.specs.Tables.{kept_table}
use Rattle.progression.proofs.own.before.Given as goal

abbrev pub invariant-loop-entry : goal.invariant-loop-entry
invariant-loop-entry l = record {
  rest : kept_table (drop l.entry-index l.kept) l.place ≡ kept_table l.kept l.place;
  store : l.store ≡ l.initial.store;
}
