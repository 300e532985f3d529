use Rattle.std.proofs.Common.{List, subst, map}
use Rattle.owl_documents.specs.declared.items.Item.{Item}
use Rattle.owl_documents.specs.ItemViews.{item_seen}
use Rattle.owl_reader.specs.Refusals.{first_of, in_item}
use Rattle.owl_reader.specs.Reading.{Tells, taken_says}
use Rattle.owl_reader.proofs.reading.document_says.Goals as goal

pub returns : goal.returns
returns c =
    let seen = map (item_seen c.args.text.now) in
    subst (λ (xs : List Item). Tells c.taken_says.result
    (taken_says c.args.text.now (record {
      known = c.args.document.now.known;
      items =
          seen xs;
    }) (first_of in_item (seen xs)))) c.as_slice.ensures.value c.taken_says.ensures
