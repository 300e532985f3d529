use Rattle.std.proofs.Common.{◌≡◌, take}
use Rattle.snapshot_reader.specs.Said.{distinct}
use Rattle.snapshot_reader.proofs.distinct.few_distinct.Given as goal

abbrev pub invariant-loop-fact : goal.invariant-loop-fact
invariant-loop-fact l = l.kept.items ≡ distinct (take l.fact-index l.facts)
