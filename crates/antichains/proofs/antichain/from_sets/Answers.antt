use Rattle.std.proofs.lemmas.Result.{IfOk-weaker}
use Rattle.antichains.proofs.Antichains.{IsMonotone-Has, IsMonotone-holds, IsMinimal-Has}
use Rattle.antichains.proofs.antichain.from_sets.Goals as goal

pub minimal-requires : goal.minimal-requires
minimal-requires c = IsMonotone-Has _ _ (IsMonotone-holds c.args.sets.now) c.above_some.ensures

pub returns : goal.returns
returns c = IfOk-weaker c.minimal.result _ _ (λ sets.
    IsMinimal-Has _ _ sets c.above_some.ensures) c.minimal.ensures
