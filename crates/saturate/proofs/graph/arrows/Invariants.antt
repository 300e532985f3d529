use Rattle.std.proofs.Common.{◌≡◌, take}
use Rattle.saturate.specs.Above.{all_arrows}
use Rattle.saturate.proofs.graph.arrows.Given as goal

abbrev pub invariant-loop-inclusion : goal.invariant-loop-inclusion
invariant-loop-inclusion l = l.out.items ≡ all_arrows l.scope (take l.inclusion-index l.inclusions)
