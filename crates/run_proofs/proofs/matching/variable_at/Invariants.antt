use Rattle.std.proofs.Common.{◌≡◌, drop}
use Rattle.run_proofs.specs.Assigned.{assigned}
use Rattle.run_proofs.proofs.matching.variable_at.Given as goal

abbrev pub invariant-loop-place : goal.invariant-loop-place
invariant-loop-place l = assigned l.variables l.elements l.number
    ≡ assigned (drop l.place l.variables) (drop l.place l.elements) l.number
