use Rattle.std.proofs.Common.{sym, ◌∙◌, ap, arith}
use Rattle.owl_reader.specs.Refusals.{in_item}
use Rattle.owl_documents.specs.ItemViews.{item_seen}
use Rattle.owl_reader.proofs.RefusalLemmas.{found_here, none_here, none_left}
use Rattle.owl_documents.specs.declared.items.Item.{Item}
use Rattle.owl_reader.proofs.refusals.first_refused.Goals as goal

pub returns-then-is_some : goal.returns-then-is_some
returns-then-is_some c = λ bytes.
    found_here (item_seen bytes) in_item c.args.items.now bytes c.in_item-found.result
    c.loop-place.place c.index-items-place.result c.loop-place-test.true
    (sym c.is_some.ensures ∙ c.if-is_some.true)
    (c.in_item-found.ensures bytes ∙ ap (λ (x : Item).
    in_item (item_seen bytes x)) c.index-items-place.is)
    ∙ sym (c.loop-place.invariant.passed bytes)

pub loop-place-preserved : goal.loop-place-preserved
loop-place-preserved c = record {
  within = omega arith;
  passed = λ bytes.
      c.loop-place.invariant.passed bytes
      ∙ none_here (item_seen bytes) in_item c.args.items.now bytes c.in_item-found.result
      c.loop-place.place c.index-items-place.result c.loop-place-test.true
      (sym c.is_some.ensures ∙ c.if-is_some.false)
      (c.in_item-found.ensures bytes ∙ ap (λ (x : Item).
      in_item (item_seen bytes x)) c.index-items-place.is);
}

pub returns : goal.returns
returns c = λ bytes. sym (c.loop-place.invariant.passed bytes ∙ none_left (item_seen bytes) in_item
    c.args.items.now c.loop-place.place c.loop-place-test.false)
