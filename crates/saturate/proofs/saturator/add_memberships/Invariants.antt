use Rattle.std.proofs.Common.{take}
use Rattle.saturate.specs.Lists.{Absorbs}
use Rattle.saturate.specs.Sight.{Seen}
use Rattle.saturate.specs.Implied.{IsMembership}
use Rattle.saturate.proofs.saturator.add_memberships.Given as goal

abbrev pub invariant-loop-concept : goal.invariant-loop-concept
invariant-loop-concept l =
    Absorbs (Seen l.sight (IsMembership (take l.concept-index l.concepts) l.element))
    l.initial.found.keys l.found.keys
