use Rattle.std.proofs.Common.{take}
use Rattle.std.specs.List.{All, Contains}
use Rattle.formula_store.specs.Interned.{Extends}
use Rattle.answer_tables.specs.Combining.{test_of, AreCombined}
use Rattle.answer_tables.proofs.combine.combined_links.Given as goal

abbrev pub invariant-loop-joint : goal.invariant-loop-joint
invariant-loop-joint l = record {
  links : AreCombined (test_of l.operation) l.a l.b (take l.joint-index l.joints) l.links.items;
  stored : All (Contains l.store) l.links.items;
  grown : Extends l.fn.store l.store;
}
