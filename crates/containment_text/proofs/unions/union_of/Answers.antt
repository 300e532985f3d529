use Rattle.std.proofs.Common.{◌≡◌, List, [], ◌∷◌, sym, ap, subst}
use Rattle.dl_syntax.specs.declared.queries.Cq.{Cq}
use Rattle.perfect_ref.proofs.Reached.{if_ok_weaker}
use Rattle.progression.specs.Tables.{leaves_of}
use Rattle.perfect_ref.specs.Counting.{ReachAll, ReachMore}
use Rattle.perfect_ref.proofs.Counting.{all_one, more_one}
use Rattle.containment_text.proofs.LeafQueries.{leaf_nodes, leaf_there}
use Rattle.containment_text.proofs.unions.union_of.Goals as goal

pub rewrite_counted-requires : goal.rewrite_counted-requires
rewrite_counted-requires c =
    (c.in-Some.ensures.valid.leaves 0 c.in-Some.cq.now
    (leaf_there c.args.query.now c.in-Some.cq.now (sym c.in-Some.ensures.leaf))).query

pub returns-in-Some-clause-all : goal.returns-in-Some-clause-all
returns-in-Some-clause-all c =
    let own : leaves_of c.args.query.now.nodes ≡ c.in-Some.cq.now ∷ [] =
    ap leaves_of (leaf_nodes c.args.query.now c.in-Some.cq.now (sym c.in-Some.ensures.leaf)) in
    if_ok_weaker _ _
    (λ counted holds. subst (λ (qs : List Cq).
    ReachAll c.args.rewriter.now qs counted.reached) (sym own)
    (all_one c.args.rewriter.now c.in-Some.cq.now counted.reached holds))
    c.rewrite_counted.result c.rewrite_counted.ensures.count

pub returns-in-Some-clause-many : goal.returns-in-Some-clause-many
returns-in-Some-clause-many c = λ is.
    let own : leaves_of c.args.query.now.nodes ≡ c.in-Some.cq.now ∷ [] =
    ap leaves_of (leaf_nodes c.args.query.now c.in-Some.cq.now (sym c.in-Some.ensures.leaf)) in
    subst (λ (qs : List Cq). ReachMore c.args.rewriter.now qs c.args.room) (sym own)
    (more_one c.args.rewriter.now c.in-Some.cq.now c.args.room (c.rewrite_counted.ensures.many is))
