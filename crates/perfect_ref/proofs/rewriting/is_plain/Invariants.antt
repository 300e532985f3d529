use Rattle.std.proofs.Common.{take}
use Rattle.std.specs.List.{All}
use Rattle.perfect_ref.specs.Plain.{IsPlainAtom}
use Rattle.perfect_ref.proofs.rewriting.is_plain.Given as goal

abbrev pub invariant-loop-atom : goal.invariant-loop-atom
invariant-loop-atom l = All (IsPlainAtom l.roles) (take l.atom-index l.cq.body)
