use Rattle.std.proofs.Common.{take}
use Rattle.monitor_core.specs.Keeping.{AddsAntichains}
use Rattle.monitor_core.proofs.Storing.{HasEntry}
use Rattle.monitor_core.proofs.state.add_kept.Given as goal

abbrev pub invariant-loop-entry : goal.invariant-loop-entry
invariant-loop-entry l = AddsAntichains (HasEntry (take l.entry-index l.entries)) l.fn.links.items
    l.links.items
