use Rattle.std.proofs.Common.{[], ◌∷◌, take, get_or, List, sym, subst}
use Rattle.std.specs.List.{All}
use Rattle.std.proofs.lemmas.List.{take_more}
use Rattle.std.proofs.lemmas.List.Elements.{All-nil, All-cons, All-append}
use Rattle.list_lemmas.proofs.Zipped.{AllZip-next}
use Rattle.tcq_syntax.specs.Tcq.{Tcq, IsTcq}
use Rattle.proof_search.specs.Explainer.{AreSearchesOf}
use Rattle.proof_search.proofs.searches.all_searches.Goals as goal

pub loop-query-preserved : goal.loop-query-preserved
loop-query-preserved c =
    let queries = c.args.queries.now in
    let k = c.loop-query.query-index in
    record {
      tables = subst (λ (qs : List Tcq). All (λ (q : Tcq). IsTcq q.vars q.nodes) qs)
          (sym (take_more queries k c.query-item.result c.loop-query-test.true))
          (All-append (λ (q : Tcq). IsTcq q.vars q.nodes) (take k queries)
          (get_or queries k c.query-item.result ∷ []) c.loop-query.invariant.tables
          (All-cons (λ (q : Tcq). IsTcq q.vars q.nodes) (get_or queries k c.query-item.result) []
          (subst (λ (q : Tcq). IsTcq q.vars q.nodes) c.query-item.is
          c.in_ok-searches.ensures.table)
          (All-nil (λ (q : Tcq). IsTcq q.vars q.nodes))));
      searches = AllZip-next (AreSearchesOf c.args.ontology.now c.args.room) queries
          c.loop-query.all.items
          c.push.new.self.items k c.query-item.result c.in_ok-searches.searches
          c.loop-query-test.true c.loop-query.invariant.searches
          (subst (λ (q : Tcq). AreSearchesOf c.args.ontology.now c.args.room q
          c.in_ok-searches.searches)
          c.query-item.is c.in_ok-searches.ensures.searches)
          c.in_ok-push.ensures.items;
    }
