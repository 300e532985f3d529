use Rattle.std.proofs.Common.{◌≡◌, List, take, ◌↔◌}
use Rattle.dl_syntax.specs.declared.names.IndId.{IndId}
use Rattle.ucq_join.specs.Answers.{IsUnionAnswer}
use Rattle.ucq_join.specs.Gathered.{HasRow}
use Rattle.ucq_join.proofs.join.answers.Given as goal

-- the answers of the members so far
abbrev pub invariant-loop-query : goal.invariant-loop-query
invariant-loop-query l = record {
  wide : l.rows.arity ≡ l.arity;
  rows : (row : List IndId) → HasRow l.rows.runs row
      ↔ IsUnionAnswer l.index (take l.query-index l.union) row;
}
