use Rattle.std.proofs.Common.{◌∙◌, arith}
use Rattle.owl_reader.specs.Statements.{item_added, axioms_added}
use Rattle.owl_reader.specs.StatementViews.{entities_seen}
use Rattle.owl_reader.proofs.ItemLemmas.{item_passes, item_fails, items_end, no_axioms, more_axioms}
use Rattle.owl_reader.proofs.axioms.add_axioms.Goals as goal

pub each-preserved : goal.each-preserved
each-preserved c =
    let known = c.args.known.now in
    let es = entities_seen c.args.entities.now in
    record {
      within = omega arith;
      read =
          c.each.invariant.read
          ∙ item_passes (item_added known es) (axioms_added known es) (no_axioms known es)
          (more_axioms known es) c.args.bytes.now c.args.items.now c.each.ontology
          c.add_item.new.ontology c.index-items-place.result c.each.place
          c.each-test.true c.index-items-place.is c.in-Ok.ensures;
    }

pub returns-in-Err : goal.returns-in-Err
returns-in-Err c =
    let known = c.args.known.now in
    let es = entities_seen c.args.entities.now in
    item_fails (item_added known es) (axioms_added known es) (no_axioms known es)
    (more_axioms known es) c.args.bytes.now c.args.items.now c.each.ontology _
    c.index-items-place.result _ c.each.place c.in-Err.fault
    c.each-test.true c.index-items-place.is c.in-Err.ensures c.each.invariant.read

pub returns : goal.returns
returns c =
    let known = c.args.known.now in
    let es = entities_seen c.args.entities.now in
    c.each.invariant.read ∙ items_end (item_added known es) (axioms_added known es)
    (no_axioms known es) (more_axioms known es) c.args.bytes.now c.args.items.now
    c.each.ontology c.each.place c.each-test.false
