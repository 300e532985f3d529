use Rattle.std.proofs.Common.{take}
use Rattle.antichains.specs.Family.{Has}
use Rattle.antichains.specs.Sets.{holds}
use Rattle.antichains.specs.Families.{families_at}
use Rattle.antichains.proofs.antichain.substituted.Given as goal

abbrev pub invariant-loop-set : goal.invariant-loop-set
invariant-loop-set l = Has l.family (λ v. holds (take l.set-index l.sets) (families_at l.values v))
