-- What shows that a row is a certain answer, or that a clash is met.
use Rattle.std.specs.Prelude.{◌↔◌, List}
use Rattle.std.specs.List.{Contains}
use Rattle.dl_syntax.specs.declared.names.IndId.{IndId}
use Rattle.dl_syntax.specs.declared.facts.Fact.{Fact}
use Rattle.dl_syntax.specs.declared.ontology.Clash.{Clash}
use Rattle.dl_syntax.specs.declared.queries.Cq.{Cq}
use Rattle.dl_syntax.specs.Match.{Certain}
use Rattle.dl_syntax.specs.Ontology.{Declared}
use Rattle.dl_syntax.specs.Rows.{IsRising}
use Rattle.run_proofs.specs.declared.proof.Ending.{Ending}
use Rattle.run_proofs.specs.declared.proof.Ending.TheVariants as ending
use Rattle.run_proofs.specs.Growing.{run_after, AllMake}
use Rattle.run_proofs.specs.Matching.{IsMatch, MeetsAt}
use Rattle.proof_search.specs.declared.showing.Shown.{Shown}

-- by the ending the run has a match that makes the head the row
abbrev pub EndsWithMatch : Cq → List IndId → List Fact → Ending → Type 0
EndsWithMatch q row run (ending.Match elements) = IsMatch q run row elements
EndsWithMatch q row run (ending.Places first second) = ⊥

-- by the ending the run has both sides of the clash
abbrev pub EndsAtPlaces : Clash → List Fact → Ending → Type 0
EndsAtPlaces m run (ending.Match elements) = ⊥
EndsAtPlaces m run (ending.Places first second) = MeetsAt m run first second

-- the steps lead from the facts to a run that has a match which makes the head the row
abbrev pub AnswersBy : Declared → Cq → List Fact → List IndId → Shown → Type 0
AnswersBy o q facts row shown = AllMake o.inclusions facts shown.steps.items
    × EndsWithMatch q row (run_after o.inclusions facts shown.steps.items) shown.ending

-- they lead to a run that has both sides of the clash
abbrev pub MeetsBy : Declared → Clash → List Fact → Shown → Type 0
MeetsBy o m facts shown = AllMake o.inclusions facts shown.steps.items
    × EndsAtPlaces m (run_after o.inclusions facts shown.steps.items) shown.ending

-- the rows are the certain answers of the query over the facts, in rising order
pub record AreCertainRows (o : Declared) (q : Cq) (facts : List Fact) (rows : List (List IndId))
    : Type 0 where
  pub rising : IsRising rows
  pub member : (row : List IndId) → Contains rows row ↔ Certain o.inclusions q facts row

-- both lists have the same facts
abbrev pub HaveSame : List Fact → List Fact → Type 0
HaveSame facts other = (f : Fact) → Contains facts f ↔ Contains other f
