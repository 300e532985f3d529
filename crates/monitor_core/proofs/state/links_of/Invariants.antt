use Rattle.std.proofs.Common.{[], take}
use Rattle.monitor_core.specs.Keeping.{KeepsAntichain, AddsAntichains}
use Rattle.monitor_core.proofs.state.links_of.Given as goal

abbrev pub invariant-loop-k : goal.invariant-loop-k
invariant-loop-k l = AddsAntichains (KeepsAntichain (take l.k-index l.kept)) [] l.links.items
