use Rattle.std.proofs.Common.{ℕ, List, Bor}
use Rattle.tcq_reader.proofs.ListMaps.{NotBefore}
use Rattle.tcq_reader.proofs.leaf.LeafBuilder.known.Given as goal

abbrev pub invariant-loop-place : goal.invariant-loop-place
invariant-loop-place l = NotBefore (λ (v : Bor (List ℕ)).
    v.now) l.self.variables.items l.text l.place
