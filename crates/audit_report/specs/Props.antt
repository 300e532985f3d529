-- Facts of which there is one proof at most, so that an auditor may keep them.
use Rattle.std.proofs.Common.{List, None, Some}
use Rattle.std.specs.declared.option.Option.{Option}
use Rattle.std.proofs.Props as std
use Rattle.dl_syntax.specs.declared.facts.Fact.{Fact}
use Rattle.audit_report.specs.Report.{WaitsWithFew}

pub WaitsWithFew-prop : (waiting : Option (List Fact)) → IsProp (WaitsWithFew waiting)
WaitsWithFew-prop None = Prim.hlevel std.props
WaitsWithFew-prop (Some snapshot) = Prim.hlevel std.props

-- the set for a field's `by`
pub ruleset facts = (std.props, WaitsWithFew-prop)
