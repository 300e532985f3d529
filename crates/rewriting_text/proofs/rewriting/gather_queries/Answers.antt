use Rattle.std.proofs.Common.{◌≡◌, ◌∙◌, Err, ap, arith, sym}
use Rattle.std.proofs.lemmas.Result.{err_from_is_err_and}
use Rattle.perfect_ref.specs.declared.rewriting.RewriteFault.TheVariants.{TooManyRewritings}
use Rattle.perfect_ref.specs.Plain.{encoded}
use Rattle.rewriting_text.proofs.Gathering.{query_next, query_large}
use Rattle.rewriting_text.proofs.rewriting.gather_queries.Goals as goal

pub returns-in_err-gather_query-clause-many : goal.returns-in_err-gather_query-clause-many
returns-in_err-gather_query-clause-many c = λ h.
    let p = err_from_is_err_and c.from_residual.result c.from_residual.ensures.1 in
    let passed = sym p.1 ∙ h in
    let same : p.0 ≡ TooManyRewritings = cc passed in
    query_large (encoded c.args.source.now.ontology.now) c.args.queries.now
    c.loop-query.query-index c.query-item.result (omega arith) c.query-item.is
    (c.in_err-gather_query.ensures.many (ap Err (sym p.2 ∙ same)))

pub loop-query-preserved : goal.loop-query-preserved
loop-query-preserved c =
    query_next c.args.source.now.ontology.now c.args.text.now.items c.loop-query.text.items
    c.gather_query.new.text.items c.args.queries.now c.loop-query.query-index
    c.query-item.result (omega arith) c.query-item.is c.loop-query.invariant
    c.in_ok-gather_query.ensures.gathers
