use Rattle.std.proofs.lemmas.Result.{IfOk-weaker}
use Rattle.saturate.proofs.FactImplied.{seen_by_all}
use Rattle.saturate.proofs.saturator.Saturator.saturate.Goals as goal

pub returns : goal.returns
returns c = IfOk-weaker c.saturate_seen.result _ _ (λ facts seen.
    seen_by_all c.args.self.now c.all-sight.result c.args.snapshot.now facts c.all-sight.ensures
    seen) c.saturate_seen.ensures
