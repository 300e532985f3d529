use Rattle.std.proofs.Common.{take}
use Rattle.std.specs.List.{All, Contains}
use Rattle.formula_store.specs.Interned.{Extends}
use Rattle.answer_tables.specs.Combining.{test_of, AreCombinedWith}
use Rattle.answer_tables.proofs.combine.combined_each.Given as goal

abbrev pub invariant-loop-link : goal.invariant-loop-link
invariant-loop-link l = record {
  links : AreCombinedWith (test_of l.operation) (take l.link-index l.links) l.other l.all.items;
  stored : All (Contains l.store) l.all.items;
  grown : Extends l.fn.store l.store;
}
