use Rattle.std.proofs.Common.{take}
use Rattle.saturate.specs.Lists.{Absorbs}
use Rattle.saturate.specs.Sight.{Seen}
use Rattle.saturate.specs.Implied.{IsPairing}
use Rattle.saturate.proofs.saturator.add_pairings.Given as goal

abbrev pub invariant-loop-role : goal.invariant-loop-role
invariant-loop-role l =
    Absorbs (Seen l.sight (IsPairing (take l.role-index l.roles) l.first l.second))
    l.initial.found.keys l.found.keys
