use Rattle.std.proofs.Common.{take}
use Rattle.formula_store.specs.Interned.{AreDistinct}
use Rattle.answer_tables.specs.Patching.{ArePlacesAfter}
use Rattle.answer_tables.proofs.patch.places_of.Given as goal

abbrev pub invariant-loop-link : goal.invariant-loop-link
invariant-loop-link l = record {
  distinct : AreDistinct l.once.items;
  places : ArePlacesAfter l.fn.once.items (take l.link-index l.links) l.once.items l.places.items;
}
