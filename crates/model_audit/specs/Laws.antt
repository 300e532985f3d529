-- Laws of finite models.
use Rattle.std.specs.Prelude.{List, ◌↔◌}
use Rattle.std.specs.List.{All}
use Rattle.dl_syntax.specs.declared.names.IndId.{IndId}
use Rattle.dl_syntax.specs.declared.facts.Element.TheVariants.{Ind as ind_element}
use Rattle.dl_syntax.specs.declared.facts.Fact.{Fact}
use Rattle.dl_syntax.specs.declared.ontology.Inclusion.{Inclusion}
use Rattle.dl_syntax.specs.declared.ontology.Clash.{Clash}
use Rattle.dl_syntax.specs.declared.queries.Cq.{Cq}
use Rattle.dl_syntax.specs.Facts.{HasNoNull}
use Rattle.dl_syntax.specs.Chase.{IsConsistent}
use Rattle.dl_syntax.specs.Match.{Certain}
use Rattle.ucq_join.specs.Answers.{IsAnswer}
use Rattle.models.specs.Models.{IsModel}
use Rattle.models.specs.Laws.{listed}
use Rattle.model_audit.specs.FiniteModels.{IsFiniteModel}

-- the finite models are the models with each individual itself
abbrev pub FiniteModelsAreModels : Type 0
FiniteModelsAreModels =
    (inclusions : List Inclusion) (clashes : List Clash) (snapshot facts : List Fact)
    → All HasNoNull snapshot
    → IsFiniteModel inclusions clashes snapshot facts
    ↔ IsModel (listed ind_element facts) inclusions clashes snapshot

-- a snapshot with a finite model is consistent
abbrev pub FiniteModelsShowConsistency : Type 0
FiniteModelsShowConsistency =
    (inclusions : List Inclusion) (clashes : List Clash) (snapshot facts : List Fact)
    → All HasNoNull snapshot
    → IsFiniteModel inclusions clashes snapshot facts
    → IsConsistent inclusions clashes snapshot

-- each certain tuple is an answer in the facts of a finite model
abbrev pub CertainAnswersMatch : Type 0
CertainAnswersMatch =
    (inclusions : List Inclusion) (clashes : List Clash) (snapshot facts : List Fact) (q : Cq)
    (row : List IndId)
    → All HasNoNull snapshot
    → IsFiniteModel inclusions clashes snapshot facts
    → Certain inclusions q snapshot row
    → IsAnswer facts q row
