use Rattle.std.proofs.Common.{take}
use Rattle.std.specs.List.{AllZip}
use Rattle.antichains.specs.Families.{FamilyOf}
use Rattle.antichains.proofs.antichain.families_of.Given as goal

abbrev pub invariant-loop-value : goal.invariant-loop-value
invariant-loop-value l = AllZip FamilyOf (take l.value-index l.values) l.families.items
