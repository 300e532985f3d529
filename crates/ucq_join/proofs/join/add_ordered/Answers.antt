use Rattle.std.proofs.Common.{[]}
use Rattle.std.proofs.lemmas.Result.{on_ok_weaker}
use Rattle.ucq_join.proofs.Witnesses.{covered_permuted, adds_permuted}
use Rattle.ucq_join.proofs.join.add_ordered.Goals as goal

pub extend-requires-clause-covered : goal.extend-requires-clause-covered
extend-requires-clause-covered c =
    rw (c.new-bindings.ensures.items, c.as_slice.ensures.value)
    (covered_permuted [] c.args.body.now c.in_ok-body.body.items c.args.head.now
    c.in_ok-body.ensures c.requires.covered)

pub returns : goal.returns
returns c =
    on_ok_weaker c.extend.result
    (λ added. adds_permuted c.args.index.now c.args.head.now c.args.body.now c.in_ok-body.body.items
    [] c.args.rows.now c.extend.new.rows c.in_ok-body.ensures
    (rw (c.new-bindings.ensures.items, c.as_slice.ensures.value) at added)) c.extend.ensures.rows
