use Rattle.std.proofs.Common.{◌≡◌, ◌≤◌, length}
use Rattle.std.specs.Prelude.{Some, slice_get}
use Rattle.std.specs.List.{IsDistinct}
use Rattle.query_unify.specs.Reach.{Step}
use Rattle.worklist.proofs.Closed.{Progress}
use Rattle.dl_syntax.specs.contracts.queries.CqPartialEq.TheImpl as cq
use Rattle.proof_search.specs.Reached.{AreLinked}
use Rattle.proof_search.proofs.closure.closure.Given as goal

abbrev pub invariant-loop-place : goal.invariant-loop-place
invariant-loop-place l = record {
  progress : Progress (Step l.inclusions) l.fn.start l.place l.reached.found.keys;
  linked : AreLinked l.inclusions l.reached.found.keys l.reached.links.items;
  first : slice_get l.reached.found.keys 0 ≡ Some l.fn.start;
  few : length l.reached.found.keys ≤ l.room;
  distinct : IsDistinct ((cq.ghosts).eq) l.reached.found.keys;
}
