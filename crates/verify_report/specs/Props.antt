-- Facts of which there is one proof at most, so that a verifier may keep them.
use Rattle.std.proofs.Props as std
use Rattle.verify_report.specs.declared.stage.Stage.{Stage}
use Rattle.verify_report.specs.declared.stage.Stage.TheVariants.{Outside, Begun, Given, Whole}
use Rattle.verify_report.specs.Stages.{HasFew}

pub HasFew-prop : (stage : Stage) → IsProp (HasFew stage)
HasFew-prop Outside = Prim.hlevel std.props
HasFew-prop (Begun goal) = Prim.hlevel std.props
HasFew-prop (Given goal facts steps) = Prim.hlevel std.props
HasFew-prop (Whole proof) = Prim.hlevel std.props

-- the set for a field's `by`
pub ruleset facts = (std.props, HasFew-prop)
