use Rattle.std.proofs.Common.{◌≡◌, take, map}
use Rattle.proof_search.specs.Bindings.{assigned_by}
use Rattle.proof_search.proofs.answer.elements_of.Given as goal

abbrev pub invariant-loop-variable : goal.invariant-loop-variable
invariant-loop-variable l = l.elements.items
    ≡ map (assigned_by l.bindings) (take l.variable-index l.variables)
