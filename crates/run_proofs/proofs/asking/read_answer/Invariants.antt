use Rattle.std.proofs.Common.{ℕ, ◌<◌}
use Rattle.run_proofs.specs.Asking.{IsNoAnswerOf}
use Rattle.run_proofs.proofs.asking.read_answer.Given as goal

abbrev pub invariant-loop-place : goal.invariant-loop-place
invariant-loop-place l =
    (k : ℕ) → k < l.place → IsNoAnswerOf l.ontology l.queries k l.text
