use Rattle.std.proofs.Common.{take}
use Rattle.std.specs.List.{All, Contains}
use Rattle.formula_store.specs.Interned.{Extends}
use Rattle.answer_tables.specs.Substituting.{AreSubstituted}
use Rattle.answer_tables.proofs.substitute.substituted_links.Given as goal

abbrev pub invariant-loop-joint : goal.invariant-loop-joint
invariant-loop-joint l = record {
  links : AreSubstituted l.table.slots l.table.arity l.table l.values (take l.joint-index l.joints)
      l.links.items;
  stored : All (Contains l.store) l.links.items;
  grown : Extends l.fn.store l.store;
}
