use Rattle.answer_tables.specs.Runs.{end_from}
use Rattle.answer_tables.specs.Masking.{IsMasked}
use Rattle.answer_tables.proofs.Runs.{Rest}
use Rattle.answer_tables.proofs.mask.mask.Given as goal

abbrev pub invariant-loop-place : goal.invariant-loop-place
invariant-loop-place l = record {
  rest : Rest l.b l.place l.start (end_from 0 l.b);
  masked : IsMasked l.a l.b l.usual l.start l.runs.items;
}
