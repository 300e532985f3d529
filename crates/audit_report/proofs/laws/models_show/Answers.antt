use Rattle.std.proofs.Common.{subst}
use Rattle.model_audit.specs.FiniteModels.{IsFiniteModel}
use Rattle.model_audit.specs.Examining.{IsFound}
use Rattle.model_audit.proofs.Modelling.{finite_models_show_consistency, certain_answers_match}
use Rattle.audit_report.proofs.laws.models_show.Goals as goal

pub returns : goal.returns
returns c = λ task snapshot model line told tells plain is.
    let o = task.ontology in
    let found : IsFiniteModel o.inclusions o.clashes snapshot model =
    subst (IsFound o snapshot model) is tells.found in (
      finite_models_show_consistency o.inclusions o.clashes snapshot model plain found,
      λ q row certain. certain_answers_match o.inclusions o.clashes snapshot model q row plain found
          certain,
    )
