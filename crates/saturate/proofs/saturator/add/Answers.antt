use Rattle.saturate.specs.Sight.{Sees}
use Rattle.saturate.proofs.FactImplied.{one_added}
use Rattle.saturate.proofs.saturator.add.Goals as goal

pub returns : goal.returns
returns c = one_added (Sees c.args.sight.now) c.args.fact c.args.found.now.keys
    c.insert.new.self.keys (c.sees.ensures.0 c.if-not-sees.false) c.in_ok-insert.ensures.keys
