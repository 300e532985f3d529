use Rattle.answer_tables.proofs.CountedRuns.{Growing}
use Rattle.answer_tables.proofs.table.Table.runs.Given as goal

abbrev pub invariant-loop-place : goal.invariant-loop-place
invariant-loop-place l =
    Growing l.self-inside.slots l.self-inside.arity l.self-inside.links.items
    l.self-inside.ranks.value l.runs.items l.link l.begin l.end l.place
