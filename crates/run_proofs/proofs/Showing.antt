-- What a proof shows holds.
use Rattle.std.proofs.Common.{List, []}
use Rattle.std.specs.Prelude.{Option, Some, None}
use Rattle.dl_syntax.specs.declared.facts.Fact.{Fact}
use Rattle.dl_syntax.specs.declared.names.IndId.{IndId}
use Rattle.dl_syntax.specs.declared.facts.Element.{Element}
use Rattle.dl_syntax.specs.declared.ontology.Clash.{Clash}
use Rattle.dl_syntax.specs.declared.ontology.Clash.TheVariants as clash
use Rattle.dl_syntax.specs.declared.queries.Cq.{Cq}
use Rattle.dl_syntax.specs.Ontology.{Declared}
use Rattle.dl_syntax.specs.Chase.{Run, Meets, start}
use Rattle.list_lemmas.proofs.Elements.{Contains-at}
use Rattle.tcq_syntax.specs.Tcq.{Tcq}
use Rattle.run_proofs.specs.declared.proof.Goal.{Goal}
use Rattle.run_proofs.specs.declared.proof.Goal.TheVariants as goal
use Rattle.run_proofs.specs.declared.proof.Ending.{Ending}
use Rattle.run_proofs.specs.declared.proof.Ending.TheVariants as ending
use Rattle.run_proofs.specs.Growing.{run_after}
use Rattle.run_proofs.specs.Matching.{MeetsAt}
use Rattle.run_proofs.specs.Shows.{leaf_at, clash_of, EndsAnswer, EndsClash, Ends, IsCertainAnswer}
use Rattle.run_proofs.specs.Shows.{IsMetClash, Holds}
use Rattle.run_proofs.specs.Laws.{ShownHolds}
use Rattle.run_proofs.proofs.Steps.{steps_make_run}

meets : (m : Clash) (run : List Fact) (first second : _) → MeetsAt m run first second → Meets m run
meets (clash.Concepts b c) run first second at = (
  at.left,
  at.right,
  at.are_sides.0,
  Contains-at run first at.left at.at_first,
  Contains-at run
      second at.right at.at_second,
  at.are_sides.1,
  at.are_sides.2,
)
meets (clash.Roles r s) run first second at = (
  at.left,
  at.right,
  at.are_sides.0,
  at.are_sides.1,
  Contains-at run first at.left at.at_first,
  Contains-at run second at.right at.at_second,
  at.are_sides.2,
  at.are_sides.3,
)

module _ (o : Declared) (facts run : List Fact) (is_run : Run o.inclusions facts run) where
  answer_holds : (q : Option Cq) (row : List IndId) (elements : List Element)
      → EndsAnswer q run row elements → IsCertainAnswer o q facts row
  answer_holds (Some q) row elements m =
      record {
        run = run;
        assignment = m.assignment;
        is_run = is_run;
        match = m.match;
        head =
            m.head;
      }
  answer_holds None row elements none = none

  clash_holds : (m : Option Clash) (first second : _) → EndsClash m run first second
      → IsMetClash o m facts
  clash_holds (Some m) first second at = (run, is_run, meets m run first second at)
  clash_holds None first second none = none

  goal_holds : (queries : List Tcq) (g : Goal) (e : Ending) → Ends o queries run g e
      → Holds o queries facts g
  goal_holds queries (goal.Answer query leaf row) (ending.Match elements) ends =
      answer_holds (leaf_at queries query leaf) row elements ends
  goal_holds queries (goal.Answer query leaf row) (ending.Places first second) ends = absurd ends
  goal_holds queries (goal.Clash number) (ending.Match elements) ends = absurd ends
  goal_holds queries (goal.Clash number) (ending.Places first second) ends =
      clash_holds (clash_of o.clashes number) first second ends

pub shown_holds : ShownHolds
shown_holds o queries proof shows =
    goal_holds o proof.facts (run_after o.inclusions proof.facts proof.steps)
    (steps_make_run o.inclusions proof.facts proof.facts proof.steps ([], start)) queries
    proof.goal proof.ending shows.ends
