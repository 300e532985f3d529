use Rattle.std.proofs.Common.{take}
use Rattle.perfect_ref.specs.Rules.{IsIndex}
use Rattle.perfect_ref.proofs.rules.index_by.Given as goal

abbrev pub invariant-loop-inclusion : goal.invariant-loop-inclusion
invariant-loop-inclusion l = IsIndex l.side (take l.inclusion-index l.inclusions) l.lists.items
