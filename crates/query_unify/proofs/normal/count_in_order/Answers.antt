use Rattle.std.proofs.Common.{◌++◌, ◌<◌, take, length, sym, ◌∙◌, ap, arith}
use Rattle.query_unify.specs.Normal.{distinct, variables_of, terms_of}
use Rattle.query_unify.proofs.FirstPlaces.{body_more}
use Rattle.query_unify.proofs.normal.count_in_order.Goals as goal

pub loop-atom-preserved : goal.loop-atom-preserved
loop-atom-preserved c =
    let below : c.loop-atom.atom-index < length c.args.cq.now.body =
    omega (arith, ap length c.as_slice-atom-items.ensures) in
    ap distinct (sym (body_more c.args.cq.now.head c.args.cq.now.body c.loop-atom.atom-index _
    below))
    ∙ (rw c.as_slice-atom-items.ensures at
    (c.in_ok-count-2.ensures (variables_of
    (c.args.cq.now.head ++ terms_of (take c.loop-atom.atom-index c.args.cq.now.body)))
    c.loop-atom.invariant))
