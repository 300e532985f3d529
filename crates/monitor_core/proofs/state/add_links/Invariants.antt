use Rattle.std.proofs.Common.{take}
use Rattle.std.specs.List.{Contains}
use Rattle.monitor_core.specs.Keeping.{AddsAntichains}
use Rattle.monitor_core.proofs.state.add_links.Given as goal

abbrev pub invariant-loop-link : goal.invariant-loop-link
invariant-loop-link l = AddsAntichains (Contains (take l.link-index l.distinct)) l.fn.links.items
    l.links.items
