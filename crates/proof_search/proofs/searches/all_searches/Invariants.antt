use Rattle.std.proofs.Common.{take}
use Rattle.std.specs.List.{All, AllZip}
use Rattle.tcq_syntax.specs.Tcq.{Tcq, IsTcq}
use Rattle.proof_search.specs.Explainer.{AreSearchesOf}
use Rattle.proof_search.proofs.searches.all_searches.Given as goal

abbrev pub invariant-loop-query : goal.invariant-loop-query
invariant-loop-query l = record {
  tables : All (λ (q : Tcq). IsTcq q.vars q.nodes) (take l.query-index l.queries);
  searches : AllZip (AreSearchesOf l.ontology l.room) (take l.query-index l.queries) l.all.items;
}
