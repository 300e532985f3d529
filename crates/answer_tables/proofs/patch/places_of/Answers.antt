use Rattle.std.proofs.Common.{◌≡◌, ◌+◌, ◌++◌, ◌∷◌, [], ℕ, List, take, sym, ◌∙◌, ap, subst}
use Rattle.std.proofs.lemmas.List.{take_more}
use Rattle.answer_tables.specs.Patching.{ArePlacesAfter}
use Rattle.answer_tables.proofs.Renamings.{ArePlacesAfter-more}
use Rattle.answer_tables.proofs.patch.places_of.Goals as goal

pub loop-link-preserved : goal.loop-link-preserved
loop-link-preserved c =
    let links = c.args.links.now in
    let i = c.loop-link.link-index in
    let x = c.link-item.result in
    let once = c.place_of.new.once.items in
    let longer : take (i + 1) links ≡ take i links ++ x ∷ [] =
    take_more links i x c.loop-link-test.true ∙ ap (λ (y : List ℕ).
    take i links ++ y ∷ []) (sym c.link-item.is) in
    record {
      distinct = c.in_ok-place.ensures.distinct;
      places = subst (λ (front : List (List ℕ)).
          ArePlacesAfter c.args.once.now.items front once c.push.new.self.items) (sym longer)
          (ArePlacesAfter-more c.args.once.now.items (take i links) c.loop-link.once.items once
          c.loop-link.places.items c.push.new.self.items x c.in_ok-place.place
          c.in_ok-place.ensures.grown c.in_ok-place.ensures.place c.in_ok-push.ensures.items
          c.loop-link.invariant.places);
    }
