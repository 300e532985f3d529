-- The rewriting gives exactly the certain answers.
use Rattle.std.specs.Prelude.{◌≡◌, ◌↔◌, List, length, map}
use Rattle.dl_syntax.specs.declared.names.IndId.{IndId}
use Rattle.dl_syntax.specs.declared.facts.Element.TheVariants.{Ind as ind_element}
use Rattle.dl_syntax.specs.declared.facts.Fact.{Fact}
use Rattle.dl_syntax.specs.declared.queries.Cq.{Cq}
use Rattle.dl_syntax.specs.Queries.{IsQuery}
use Rattle.dl_syntax.specs.Ontology.{Declared}
use Rattle.dl_syntax.specs.Encode.{IsOverOntology, IsQueryOver}
use Rattle.dl_syntax.specs.Saturation.{IsSaturation, IsSaturated}
use Rattle.dl_syntax.specs.Match.{Certain}
use Rattle.query_unify.specs.Laws.{Gives}
use Rattle.perfect_ref.specs.Plain.{encoded, PlainReachable, PlainCore}

-- some query that the property holds of has a match among the facts that sends its head to the row
abbrev pub SomeGives : (Cq → Type 0) → List Fact → List IndId → Type 0
SomeGives P facts row = (q : Cq) × P q × Gives q facts (map ind_element row)

-- the certain answers are what the reachable queries that name no hidden role give in the
-- snapshot's facts
abbrev pub RewritingGivesAnswers : Type 0
RewritingGivesAnswers = (o : Declared) (q : Cq) (snapshot : List Fact) (row : List IndId)
    → IsOverOntology o snapshot → IsQueryOver o q →
    SomeGives (PlainReachable (encoded o) q) snapshot row ↔ Certain o.inclusions q snapshot row

-- the certain answers are what the core gives in the saturated facts
abbrev pub CoreGivesAnswers : Type 0
CoreGivesAnswers = (o : Declared) (q : Cq) (snapshot facts : List Fact) (row : List IndId)
    → IsOverOntology o snapshot → IsQueryOver o q → IsSaturated o snapshot facts →
    SomeGives (PlainCore (encoded o) q) facts row ↔ Certain o.inclusions q snapshot row

-- the same of a saturation
abbrev pub CoreAnswersSaturation : Type 0
CoreAnswersSaturation =
    (o : Declared) (q : Cq) (snapshot facts : List Fact) (row : List IndId) →
    IsOverOntology o snapshot → IsQueryOver o q → IsSaturation o.inclusions snapshot facts →
    SomeGives (PlainCore (encoded o) q) facts row ↔ Certain o.inclusions q snapshot row

-- each reachable query is within the limits, and its head is as long as the first one's
abbrev pub ReachableIsQuery : Type 0
ReachableIsQuery = (o : Declared) (q q' : Cq) → IsQuery q → PlainReachable (encoded o) q q'
    → IsQuery q' × (length q'.head ≡ length q.head)
