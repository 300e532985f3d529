use Rattle.std.proofs.Common.{subst}
use Rattle.saturate.specs.Implied.{HasAllImplied}
use Rattle.saturate.proofs.FactImplied.{all_implied}
use Rattle.saturate.proofs.saturator.Saturator.whole_exists.Goals as goal

pub returns : goal.returns
returns c = subst HasAllImplied c.self.view_is
    (all_implied c.self.inside.inclusions.items c.self.inside.members.items
    c.self.inside.firsts.items c.self.inside.seconds.items c.self.inside.roles.items
    c.self.invariant)
