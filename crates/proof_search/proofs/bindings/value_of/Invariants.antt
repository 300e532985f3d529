use Rattle.std.proofs.Common.{◌≡◌, drop}
use Rattle.proof_search.specs.Bindings.{value_of}
use Rattle.proof_search.proofs.bindings.value_of.Given as goal

-- the bindings that are left decide
abbrev pub invariant-loop-binding : goal.invariant-loop-binding
invariant-loop-binding l = value_of (drop l.binding-index l.bindings) l.variable
    ≡ value_of l.bindings l.variable
