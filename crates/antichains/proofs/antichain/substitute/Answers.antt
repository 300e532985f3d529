use Rattle.std.proofs.lemmas.Result.{IfOk-weaker}
use Rattle.antichains.proofs.Antichains.{IsMonotone-Has, IsMonotone-substituted, Has-substituted}
use Rattle.antichains.proofs.Antichains.{IsMinimal-Has}
use Rattle.antichains.proofs.antichain.substitute.Goals as goal

pub minimal-requires : goal.minimal-requires
minimal-requires c =
    IsMonotone-Has _ _ (IsMonotone-substituted c.args.antichain.now c.args.values.now)
    (Has-substituted _ c.args.antichain.now _ c.in_ok-families.families.items _ c.args.values.now
    c.sets.ensures.sets c.as_slice.ensures.value c.in_ok-families.ensures
    c.substituted-family.ensures)

pub returns : goal.returns
returns c =
    IfOk-weaker c.minimal.result _ _ (λ sets. IsMinimal-Has _ _ sets
    (Has-substituted _ c.args.antichain.now _ c.in_ok-families.families.items _ c.args.values.now
    c.sets.ensures.sets c.as_slice.ensures.value c.in_ok-families.ensures
    c.substituted-family.ensures)) c.minimal.ensures
