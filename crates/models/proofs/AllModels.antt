-- The certain tuples are the answers in all models, over elements of any type.
use Rattle.std.specs.Prelude.{ℕ, List, ◌↔◌}
use Rattle.std.specs.List.{Contains}
use Rattle.dl_syntax.specs.declared.names.IndId.{IndId}
use Rattle.dl_syntax.specs.declared.facts.Element.{Element}
use Rattle.dl_syntax.specs.declared.facts.Fact.{Fact}
use Rattle.dl_syntax.specs.declared.ontology.Inclusion.{Inclusion}
use Rattle.dl_syntax.specs.declared.ontology.Clash.{Clash}
use Rattle.dl_syntax.specs.declared.queries.Cq.{Cq}
use Rattle.dl_syntax.specs.Facts.{HasNoNull}
use Rattle.dl_syntax.specs.Chase.{IsConsistent}
use Rattle.dl_syntax.specs.Match.{Certain}
use Rattle.models.specs.Models.{Interpretation, IsModel, Answers}
use Rattle.models.specs.Laws.{united, listed, AnswersAreUnions, FiniteModelsShowConsistency}
use Rattle.models.proofs.IntoModels.{certain_answers_hold_in, models_show_consistency}
use Rattle.models.proofs.Canonical.{has_exact_model}

pub certain_is_in_each : (inclusions : List Inclusion) (clashes : List Clash) (snapshot : List Fact)
    (q : Cq) (row : List IndId) → ((f : Fact) → Contains snapshot f → HasNoNull f)
    → IsConsistent inclusions clashes snapshot → Certain inclusions q snapshot row
    ↔ ((E : Type 0) (I : Interpretation E) → IsModel I inclusions clashes snapshot
    → Answers I q row)
certain_is_in_each inclusions clashes snapshot q row plain consistent = (
  λ certain E I model. certain_answers_hold_in I inclusions clashes snapshot q row model certain,
  λ all.
      let found : (runs : ℕ → List Fact) × IsModel (united runs) inclusions clashes snapshot
      × ((q : Cq) (row : List IndId) → Answers (united runs) q row
      ↔ Certain inclusions q snapshot row) =
      has_exact_model inclusions clashes snapshot plain consistent in
      (found.2 q row).0 (all Element (united found.0) found.1),
)

pub answers_are_unions : AnswersAreUnions
answers_are_unions inclusions clashes snapshot queries row plain consistent = (
  λ one lists model. (
    one.0,
    one.1,
    certain_answers_hold_in (united lists) inclusions clashes snapshot one.0 row model one.2,
  ),
  λ all.
      let found : (runs : ℕ → List Fact) × IsModel (united runs) inclusions clashes snapshot
      × ((q : Cq) (row : List IndId) → Answers (united runs) q row
      ↔ Certain inclusions q snapshot row) =
      has_exact_model inclusions clashes snapshot plain consistent in
      let one : (q : Cq) × Contains queries q × Answers (united found.0) q row =
      all found.0 found.1 in
      (one.0, one.1, (found.2 one.0 row).0 one.2),
)

pub finite_models_show_consistency : FiniteModelsShowConsistency
finite_models_show_consistency inclusions clashes snapshot h facts model =
    models_show_consistency (listed h facts) inclusions clashes snapshot model
