use Rattle.answer_tables.specs.Runs.{unit_runs}
use Rattle.answer_tables.proofs.Renamings.{Mapping}
use Rattle.answer_tables.proofs.ranking.Ranking.to_bytes.Given as goal

abbrev pub invariant-loop-place : goal.invariant-loop-place
invariant-loop-place l = Mapping (λ k. k) l.self (unit_runs 0 l.bytes.items) l.place
