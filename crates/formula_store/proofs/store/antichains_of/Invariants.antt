use Rattle.std.proofs.Common.{◌≡◌, take}
use Rattle.formula_store.proofs.store.antichains_of.Given as goal

abbrev pub invariant-loop-link : goal.invariant-loop-link
invariant-loop-link l = l.antichains.items ≡ take l.link-index l.links
