use Rattle.std.proofs.Common.{take}
use Rattle.monitor_core.specs.Keeping.{AllFresh}
use Rattle.monitor_core.proofs.opening.all_started.Given as goal

abbrev pub invariant-loop-query : goal.invariant-loop-query
invariant-loop-query l = AllFresh (take l._query-index l.queries) l.kept.items
