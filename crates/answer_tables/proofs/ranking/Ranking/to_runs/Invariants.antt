use Rattle.answer_tables.proofs.Renamings.{Mapping}
use Rattle.answer_tables.proofs.ranking.Ranking.to_runs.Given as goal

abbrev pub invariant-loop-place : goal.invariant-loop-place
invariant-loop-place l = Mapping (λ k. k) l.self l.runs.items l.place
