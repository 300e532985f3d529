use Rattle.std.proofs.Common.{◌≡◌, take}
use Rattle.std.specs.List.{All, Contains}
use Rattle.formula_store.specs.Interned.{Extends}
use Rattle.answer_tables.proofs.substitute.stored_links.Given as goal

abbrev pub invariant-loop-link : goal.invariant-loop-link
invariant-loop-link l = record {
  same : l.all.items ≡ take l.link-index l.links;
  stored : All (Contains l.store) l.all.items;
  grown : Extends l.fn.store l.store;
}
