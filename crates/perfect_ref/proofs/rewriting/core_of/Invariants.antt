use Rattle.std.proofs.Common.{◌≡◌, ◌∷◌, []}
use Rattle.perfect_ref.specs.Found.{Absorbs, Somewhere, IsMadeAt}
use Rattle.perfect_ref.proofs.rewriting.core_of.Given as goal

abbrev pub invariant-loop-cq : goal.invariant-loop-cq
invariant-loop-cq l = Absorbs (Somewhere (IsMadeAt l.roles l.rules l.found) l.cq-index)
    (l.fn.start ∷ []) l.core.keys × (l.made.items ≡ [])
