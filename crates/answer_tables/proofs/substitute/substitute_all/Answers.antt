use Rattle.std.proofs.Common.{map, sym, subst}
use Rattle.std.specs.Prelude.{All}
use Rattle.std.proofs.lemmas.Result.{IfOk-weaker}
use Rattle.antichains.specs.Antichain.{values_at}
use Rattle.answer_tables.specs.Table.{Antichains, at}
use Rattle.answer_tables.specs.Substituting.{HasNoNode, Substitutes}
use Rattle.answer_tables.proofs.Constants.{no_node_at, no_node_same}
use Rattle.answer_tables.proofs.substitute.substitute_all.Goals as goal

pub returns-then-have_no_nodes-clause-each : goal.returns-then-have_no_nodes-clause-each
returns-then-have_no_nodes-clause-each c =
    let table : Antichains = c.args.table.now in
    let values = c.args.values.now in
    let links = c.table.inside.links.items in
    let all : All HasNoNode links =
    subst (All HasNoNode) c.as_slice.ensures.value
    (c.have_no_nodes.ensures c.if-have_no_nodes.true) in
    IfOk-weaker c.stored_table.result _ _ (λ (t : Antichains) is tuple tup.
    subst (λ (v : Antichains). Substitutes table values tuple (at v tuple)) (sym is)
    (no_node_same (at table tuple) (λ v. values_at (map (λ (x : Antichains). at x tuple) values) v)
    (no_node_at c.table.inside.slots c.table.inside.arity links c.table.inside.ranks.value table
    c.table.invariant all c.table.view_is tuple tup))) c.stored_table.ensures.same
