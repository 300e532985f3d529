use Rattle.std.proofs.Common.{◌≡◌, take, map}
use Rattle.dl_syntax.specs.Match.{atom_at}
use Rattle.proof_search.specs.Bindings.{assigned_by}
use Rattle.proof_search.proofs.matching.facts_of.Given as goal

abbrev pub invariant-loop-atom : goal.invariant-loop-atom
invariant-loop-atom l = l.facts.items
    ≡ map (atom_at (assigned_by l.bindings)) (take l.atom-index l.body)
