use Rattle.std.proofs.Common.{◌∙◌, arith}
use Rattle.owl_reader.specs.Statements.{item_declared, all_declared}
use Rattle.owl_reader.specs.VocabularyViews.{vocabulary_seen}
use Rattle.owl_reader.proofs.ItemLemmas.{item_passes, item_fails, items_end, no_declarations}
use Rattle.owl_reader.proofs.ItemLemmas.{more_declarations}
use Rattle.owl_reader.proofs.declarations.declare_all.Goals as goal

pub each-preserved : goal.each-preserved
each-preserved c =
    let known = c.args.known.now in
    record {
      within = omega arith;
      read =
          c.each.invariant.read
          ∙ item_passes (item_declared known) (all_declared known) (no_declarations known)
          (more_declarations known) c.args.bytes.now c.args.items.now
          (vocabulary_seen c.each.vocabulary) (vocabulary_seen c.declare_item.new.vocabulary)
          c.index-items-place.result c.each.place
          c.each-test.true c.index-items-place.is c.in-Ok.ensures;
    }

pub returns-in-Err : goal.returns-in-Err
returns-in-Err c =
    let known = c.args.known.now in
    item_fails (item_declared known) (all_declared known) (no_declarations known)
    (more_declarations known) c.args.bytes.now c.args.items.now
    (vocabulary_seen c.each.vocabulary) _ c.index-items-place.result _ c.each.place
    c.in-Err.fault
    c.each-test.true c.index-items-place.is c.in-Err.ensures c.each.invariant.read

pub returns : goal.returns
returns c =
    let known = c.args.known.now in
    c.each.invariant.read ∙ items_end (item_declared known) (all_declared known)
    (no_declarations known) (more_declarations known) c.args.bytes.now c.args.items.now
    (vocabulary_seen c.each.vocabulary) c.each.place c.each-test.false
