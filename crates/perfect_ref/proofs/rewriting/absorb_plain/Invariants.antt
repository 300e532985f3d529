use Rattle.std.proofs.Common.{◌≡◌, ◌++◌, List, length}
use Rattle.std.specs.List.{Contains}
use Rattle.dl_syntax.specs.declared.queries.Cq.{Cq}
use Rattle.perfect_ref.specs.Plain.{IsPlain}
use Rattle.perfect_ref.specs.Found.{Absorbs}
use Rattle.perfect_ref.proofs.rewriting.absorb_plain.Given as goal

abbrev pub invariant-loop-cq : goal.invariant-loop-cq
invariant-loop-cq l = (moved : List Cq) × (l.initial.made.items ≡ l.made.items ++ moved)
    × Absorbs (λ q. Contains moved q × IsPlain l.roles q) l.initial.core.keys l.core.keys

abbrev pub decreases-loop-cq : goal.decreases-loop-cq
decreases-loop-cq l = length l.made.items
