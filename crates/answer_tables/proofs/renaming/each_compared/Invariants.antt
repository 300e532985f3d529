use Rattle.std.proofs.Common.{take}
use Rattle.formula_store.specs.Interned.{AreDistinct}
use Rattle.answer_tables.specs.Renaming.{ArePlaces}
use Rattle.answer_tables.proofs.renaming.each_compared.Given as goal

abbrev pub invariant-loop-link : goal.invariant-loop-link
invariant-loop-link l = record {
  distinct : AreDistinct l.once.items;
  places : ArePlaces (take l.link-index l.links) l.once.items l.places.items;
}
