-- One table more.
use Rattle.std.proofs.Common.{List, refl, ◌∙◌, ap, subst}
use Rattle.std.specs.Prelude.{map}
use Rattle.list_lemmas.proofs.Zipped.{AllZip-next}
use Rattle.checkpoint_text.specs.declared.checkpoint.Stretch.{Stretch}
use Rattle.checkpoint_text.specs.Suspended.{NodeLists}
use Rattle.checkpoint_state.specs.Resuming.{IsTableOf}
use Rattle.checkpoint_state.specs.Telling.{drawn_out, list_at}
use Rattle.checkpoint_state.proofs.tables.tables_of.Goals as goal

pub loop-node-preserved : goal.loop-node-preserved
loop-node-preserved c =
    let lists = c.args.lists.now in
    let query = c.args.query.now in
    let slots = c.args.slots in
    let place = c.node.inside.place in
    let table = c.in_ok-table.table in
    AllZip-next (IsTableOf lists query slots) c.args.nodes.now c.loop-node.tables.items
    c.push.new.self.items c.loop-node.node-index c.node-item.result (place, table)
    c.loop-node-test.true c.loop-node.invariant
    (subst (λ (n : NodeLists). IsTableOf lists query slots n (place, table))
    (c.node.view_is ∙ c.node-item.is)
    (record {
      place = refl;
      slots_are = c.in_ok-table.ensures.slots;
      arity_is = c.in_ok-table.ensures.arity ∙ c.vars.ensures.same;
      antichains = c.in_ok-table.ensures.antichains
          ∙ ap (λ (ss : List Stretch). map (list_at lists) (drawn_out ss))
          c.as_slice-stretches.ensures.value;
    })) c.in_ok-push.ensures.items
