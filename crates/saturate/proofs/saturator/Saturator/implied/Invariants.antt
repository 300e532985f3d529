use Rattle.std.proofs.Common.{take, []}
use Rattle.saturate.specs.Lists.{Absorbs}
use Rattle.saturate.specs.Sight.{Seen}
use Rattle.saturate.specs.Implied.{IsImplied}
use Rattle.saturate.proofs.saturator.Saturator.implied.Given as goal

abbrev pub invariant-loop-fact : goal.invariant-loop-fact
invariant-loop-fact l = Absorbs (Seen l.sight (IsImplied l.self (take l.fact-index l.facts))) []
    l.found.keys
