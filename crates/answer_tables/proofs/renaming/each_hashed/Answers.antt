use Rattle.std.proofs.Common.{◌≡◌, ◌+◌, ◌++◌, ◌∷◌, [], ℕ, List, take, sym, ◌∙◌, ap, subst, arith}
use Rattle.std.specs.Prelude.{Some, slice_get}
use Rattle.std.specs.Cmp.Lexicographic.{same_text}
use Rattle.std.proofs.lemmas.List.{take_more}
use Rattle.formula_store.specs.Interned.{AreDistinct}
use Rattle.formula_store.proofs.Lists.{AreDistinct-keys}
use Rattle.answer_tables.specs.Renaming.{ArePlaces}
use Rattle.answer_tables.proofs.Renamings.{ArePlaces-more}
use Rattle.answer_tables.proofs.renaming.each_hashed.Goals as goal

pub loop-link-preserved : goal.loop-link-preserved
loop-link-preserved c =
    let links = c.args.links.now in
    let i = c.loop-link.link-index in
    let x = c.in_ok-copy.field-0 in
    let keys = c.insert_full.new.self.keys in
    let stored = c.in_ok-place.ensures.stored in
    let at_p : slice_get keys c.in_ok-place.place ≡ Some x =
    stored.1 ∙ ap Some (sym (same_text x stored.0 (sym stored.2))) in
    let longer : take (i + 1) links ≡ take i links ++ x ∷ [] =
    take_more links i c.link-item.result (omega arith) ∙ ap (λ (y : List ℕ).
    take i links ++ y ∷ []) (sym c.link-item.is ∙ sym c.in_ok-copy.ensures) in
    subst (λ (front : List (List ℕ)). ArePlaces front keys c.push.new.self.items) (sym longer)
    (ArePlaces-more (take i links) c.loop-link.antichains.keys keys c.loop-link.places.items
    c.push.new.self.items x c.in_ok-place.place
    (AreDistinct-keys keys c.in_ok-place.ensures.unique) c.in_ok-place.ensures.keys at_p
    c.in_ok-push.ensures.items c.loop-link.invariant)

pub returns-clause-distinct : goal.returns-clause-distinct
returns-clause-distinct c =
    subst AreDistinct (sym (c.in_ok-links.ensures ∙ c.as_slice.ensures.keys))
    (AreDistinct-keys c.loop-link.antichains.keys c.as_slice.ensures.unique)
