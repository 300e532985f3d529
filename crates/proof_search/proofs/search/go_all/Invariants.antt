use Rattle.std.proofs.Common.{◌≡◌, ◌≤◌, ◌+◌, length, map}
use Rattle.std.specs.Prelude.{Some, slice_get}
use Rattle.dl_syntax.specs.declared.facts.Element.TheVariants.{Ind as ind_element}
use Rattle.dl_syntax.specs.declared.queries.Cq.{Cq}
use Rattle.query_unify.specs.Laws.{Gives}
use Rattle.proof_search.specs.Walk.{HasSteps, AreKept}
use Rattle.proof_search.proofs.search.go_all.Given as goal

abbrev pub invariant-loop-at : goal.invariant-loop-at
invariant-loop-at l = record {
  gives : (q : Cq) → slice_get l.reached.found.keys l.at ≡ Some q
      → Gives q l.walk.known.items (map ind_element l.row);
  steps : HasSteps l.ontology l.fn.walk.run.items l.walk.steps.items l.walk.run.items;
  kept : AreKept l.ontology l.walk.run.items l.walk.known.items;
  few : length l.walk.steps.items + l.at ≤ l.place;
}

abbrev pub decreases-loop-at : goal.decreases-loop-at
decreases-loop-at l = l.at
