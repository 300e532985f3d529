use Rattle.std.proofs.Common.{take}
use Rattle.std.specs.List.{AllZip}
use Rattle.monitor_core.specs.Widening.{IsWidened}
use Rattle.monitor_core.proofs.declare.widen_all.Given as goal

abbrev pub invariant-loop-k : goal.invariant-loop-k
invariant-loop-k l = AllZip (IsWidened l.more) (take l.k-index l.kept) l.wider.items
