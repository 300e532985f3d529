use Rattle.std.proofs.lemmas.Result.{IfOk-weaker}
use Rattle.antichains.proofs.Antichains.{IsMonotone-Has, Has-holds_and, IsMonotone-holds_and}
use Rattle.antichains.proofs.Antichains.{IsMinimal-Has}
use Rattle.antichains.proofs.antichain.and.Goals as goal

pub minimal-requires : goal.minimal-requires
minimal-requires c = IsMonotone-Has _ _ (IsMonotone-holds_and c.args.a.now c.args.b.now)
    (Has-holds_and c.args.a.now c.args.b.now c.family.result c.family-2.result _ c.family.ensures
    c.family-2.ensures c.and.ensures)

pub returns : goal.returns
returns c = IfOk-weaker c.minimal.result _ _ (λ sets.
    IsMinimal-Has _ _ sets (Has-holds_and c.args.a.now c.args.b.now c.family.result
    c.family-2.result _ c.family.ensures c.family-2.ensures c.and.ensures)) c.minimal.ensures
