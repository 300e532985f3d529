use Rattle.std.proofs.Common.{◌≡◌, ℕ, List, length, ap, arith, subst}
use Rattle.std.specs.Prelude.{Some, slice_get}
use Rattle.tcq_syntax.specs.declared.nodes.Node.{Node}
use Rattle.tcq_syntax.specs.Tcq.{Tcq}
use Rattle.proof_search.specs.Explainer.{Explained}
use Rattle.dl_syntax.specs.declared.facts.Fact.{Fact}
use Rattle.explain_report.specs.Answers.{IsEarlier, TellsMore}
use Rattle.explain_report.proofs.Goals.{query_told, read_at}
use Rattle.explain_report.proofs.proof_lines.append_query.Goals as goal

pub returns : goal.returns
returns c = λ before more.
    let task : Explained = c.args.source.now.explainer.now in
    let facts : List Fact = c.args.source.now.snapshot.now in
    let known : Tcq = c.index-queries-query.result in
    let at : slice_get c.args.source.now.explainer.now.queries c.args.query
    ≡ Some c.index-queries-query.result =
    read_at c.args.source.now.explainer.now.queries c.queries-queries.result.now c.args.query
    c.index-queries-query.result c.queries-queries.ensures.same c.requires.within
    c.index-queries-query.is in
    let all : c.loop-leaf.leaf ≡ length c.index-queries-query.result.nodes =
    omega (arith, ap (λ (ns : List Node). length ns) c.nodes.ensures.same) in
    query_told task facts c.args.query known before c.loop-leaf.out.items at
    (subst (λ (n : ℕ). TellsMore (IsEarlier c.args.query n) c.args.source.now.explainer.now
    c.args.source.now.snapshot.now before c.loop-leaf.out.items) all
    (c.loop-leaf.invariant before more))
