use Rattle.std.proofs.Common.{take}
use Rattle.saturate.specs.Above.{RolesOf}
use Rattle.saturate.proofs.tables.roles_of.Given as goal

abbrev pub invariant-loop-basic : goal.invariant-loop-basic
invariant-loop-basic l = RolesOf (take l.basic-index l.basics) l.roles.items
