use Rattle.std.proofs.Common.{◌≡◌, ◌∙◌, Err, ap, sym}
use Rattle.std.proofs.lemmas.Result.{err_from_is_err_and}
use Rattle.perfect_ref.specs.declared.rewriting.RewriteFault.TheVariants.{TooManyRewritings}
use Rattle.std.proofs.lemmas.List.Elements.{Contains-append_left}
use Rattle.perfect_ref.specs.Plain.{encoded}
use Rattle.perfect_ref.proofs.Counting.{more_contained}
use Rattle.consistency.specs.Asking.{queries_of}
use Rattle.monitor_core.specs.Opening.{all_leaves, starts}
use Rattle.rewriting_text.specs.Leaves.{leaves, HasLargeLeaf}
use Rattle.rewriting_text.proofs.LeafLists.{among_all}
use Rattle.rewriting_text.proofs.rewriting.rewriting_text.Goals as goal

pub returns-in_err-gather_queries-clause-many : goal.returns-in_err-gather_queries-clause-many
returns-in_err-gather_queries-clause-many c = λ h.
    let p = err_from_is_err_and c.from_residual-in_err-gather_queries.result
    c.from_residual-in_err-gather_queries.ensures.1 in
    let passed = sym p.1 ∙ h in
    let same : p.0 ≡ TooManyRewritings = cc passed in
    let o = c.args.ontology.now in
    let queries = c.args.queries.now in
    let large : HasLargeLeaf (encoded o) (leaves queries) =
    c.in_err-gather_queries.ensures.many (ap Err (sym p.2 ∙ same)) in
    more_contained (encoded o) (starts o queries) large.leaf.asks 1048576
    (Contains-append_left (all_leaves queries) (queries_of o.clashes) large.leaf.asks
    (among_all large.leaf queries large.there)) large.reaches
