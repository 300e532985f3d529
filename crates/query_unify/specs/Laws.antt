-- What rewriting says of answers.
use Rattle.std.specs.Prelude.{◌≡◌, ℕ, ◌≤◌, ◌⊎◌, List, [], length, ◌++◌, ◌↔◌, map}
use Rattle.std.specs.List.{All, Contains}
use Rattle.dl_syntax.specs.declared.names.IndId.{IndId}
use Rattle.dl_syntax.specs.declared.facts.Element.{Element}
use Rattle.dl_syntax.specs.declared.facts.Element.TheVariants.{Ind as ind_element}
use Rattle.dl_syntax.specs.declared.facts.Fact.{Fact}
use Rattle.dl_syntax.specs.declared.ontology.Inclusion.{Inclusion}
use Rattle.dl_syntax.specs.declared.queries.Cq.{Cq}
use Rattle.dl_syntax.specs.Queries.{IsQuery}
use Rattle.dl_syntax.specs.Chase.{Run, Makes}
use Rattle.dl_syntax.specs.Facts.{HasNoNull}
use Rattle.dl_syntax.specs.Encode.{IsUnqualified}
use Rattle.dl_syntax.specs.Match.{Assignment, Match, term_at, Certain}
use Rattle.query_unify.specs.Normal.{normalise}
use Rattle.query_unify.specs.Reach.{Step, Reach, Reduces, Replaces}

-- some match of the query among the facts sends its head to the elements
pub record Gives (q : Cq) (facts : List Fact) (elements : List Element) : Type 0 where
  pub assignment : Assignment
  pub match : Match q.body facts assignment
  pub head : map (term_at assignment) q.head ≡ elements

-- a query and its normal form give the same
abbrev pub NormalGivesSame : Type 0
NormalGivesSame = (q : Cq) (facts : List Fact) (elements : List Element)
    → Gives (normalise q) facts elements ↔ Gives q facts elements

-- the inclusions make the further facts from one of the run, or there are none
abbrev pub IsContinued : List Inclusion → List Fact → List Fact → Type 0
IsContinued inclusions run more = (more ≡ [])
    ⊎ ((i : Inclusion) × (f : Fact) × Contains inclusions i × Contains run f
    × Makes i f (length run) more)

-- what a step's result gives in a run the query before gives in this run, or in this run continued
-- once
abbrev pub StepIsSound : Type 0
StepIsSound = (inclusions : List Inclusion) (snapshot run : List Fact) (q q' : Cq)
    (elements : List Element) → Step inclusions q q' → Run inclusions snapshot run
    → Gives q' run elements → (more : List Fact) × IsContinued inclusions run more
    × Run inclusions snapshot (run ++ more) × Gives q (run ++ more) elements

-- a certain answer of a step's result is one of the query before
abbrev pub StepKeepsAnswers : Type 0
StepKeepsAnswers =
    (inclusions : List Inclusion) (snapshot : List Fact) (q q' : Cq) (row : List IndId) →
    Step inclusions q q' → Certain inclusions q' snapshot row → Certain inclusions q snapshot row

-- and one of a reachable query is one of the first
abbrev pub ReachKeepsAnswers : Type 0
ReachKeepsAnswers =
    (inclusions : List Inclusion) (snapshot : List Fact) (q q' : Cq) (row : List IndId) →
    Reach inclusions q q' → Certain inclusions q' snapshot row → Certain inclusions q snapshot row

-- what some reachable query gives in the snapshot's facts is a certain answer
abbrev pub ReachIsSound : Type 0
ReachIsSound = (inclusions : List Inclusion) (snapshot : List Fact) (q q' : Cq) (row : List IndId)
    → Reach inclusions q q' → Gives q' snapshot (map ind_element row)
    → Certain inclusions q snapshot row

-- each certain answer is what some reachable query gives in the snapshot's facts
abbrev pub ReachIsComplete : Type 0
ReachIsComplete = (inclusions : List Inclusion) (snapshot : List Fact) (q : Cq) (row : List IndId)
    → All IsUnqualified inclusions → All HasNoNull snapshot → Certain inclusions q snapshot row
    → (q' : Cq) × Reach inclusions q q' × Gives q' snapshot (map ind_element row)

-- the certain answers are what the reachable queries give in the snapshot's facts
abbrev pub RewritingIsExact : Type 0
RewritingIsExact = (inclusions : List Inclusion) (snapshot : List Fact) (q : Cq) (row : List IndId)
    → All IsUnqualified inclusions → All HasNoNull snapshot
    → Certain inclusions q snapshot row ↔ ((q' : Cq) × Reach inclusions q q'
    × Gives q' snapshot (map ind_element row))

-- all most general unifiers of the atoms at two places give one reduced query
abbrev pub ReduceHasOneResult : Type 0
ReduceHasOneResult = (j k : ℕ) (q q' q'' : Cq) → Reduces j k q q' → Reduces j k q q'' → q' ≡ q''

-- all new variables give one query after a replacement
abbrev pub ReplaceHasOneResult : Type 0
ReplaceHasOneResult = (i : Inclusion) (place : ℕ) (q q' q'' : Cq) → Replaces i place q q'
    → Replaces i place q q'' → q' ≡ q''

-- the normal form of a query within the limits is within them
abbrev pub NormalIsQuery : Type 0
NormalIsQuery = (q : Cq) → IsQuery q → IsQuery (normalise q)

-- and so is what a step leads to
abbrev pub StepKeepsQuery : Type 0
StepKeepsQuery = (inclusions : List Inclusion) (q q' : Cq) → Step inclusions q q' → IsQuery q
    → IsQuery q'

-- a step leaves the head's length, and makes the body no longer
abbrev pub StepIsNoLonger : Type 0
StepIsNoLonger = (inclusions : List Inclusion) (q q' : Cq) → Step inclusions q q'
    → (length q'.body ≤ length q.body) × (length q'.head ≡ length q.head)
