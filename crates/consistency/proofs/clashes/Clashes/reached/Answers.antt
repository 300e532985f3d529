use Rattle.std.proofs.Common.{subst}
use Rattle.perfect_ref.specs.Counting.{ReachAll}
use Rattle.consistency.specs.Asking.{queries_of}
use Rattle.consistency.specs.Prepared.{Prepared, encoding_of}
use Rattle.consistency.proofs.clashes.Clashes.reached.Goals as goal

pub returns-clause-count : goal.returns-clause-count
returns-clause-count c = subst (λ (p : Prepared).
    ReachAll (encoding_of p) (queries_of p.clashes) c.self.inside.reached) c.self.view_is
    c.self.invariant.counted
