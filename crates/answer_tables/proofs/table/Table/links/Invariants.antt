use Rattle.std.proofs.Common.{◌≡◌, ◌^◌, ◌∷◌}
use Rattle.answer_tables.specs.Table.{antichain_at}
use Rattle.answer_tables.proofs.Runs.{Rest}
use Rattle.answer_tables.proofs.LinkLists.{others}
use Rattle.answer_tables.proofs.table.Table.links.Given as goal

abbrev pub invariant-loop-place : goal.invariant-loop-place
invariant-loop-place l = record {
  links : l.links.items ≡ antichain_at l.self-inside.links.items l.self-inside.ranks.value 0
      ∷ others (antichain_at l.self-inside.links.items l.self-inside.ranks.value)
      (antichain_at l.self-inside.links.items l.self-inside.ranks.value 0) 0 l.start;
  rest : Rest l.self-inside.ranks.value l.place l.start (l.self-inside.slots ^ l.self-inside.arity);
}
