use Rattle.std.proofs.Common.{◌∙◌, sym, ap, subst, length}
use Rattle.std.proofs.lemmas.Result.{IfOk-weaker}
use Rattle.antichains.specs.Antichain.{IsAntichain}
use Rattle.formula_store.proofs.Antichains.{find_is, set_count-interned, antichains-interned}
use Rattle.formula_store.proofs.Remembered.{Remembers-interned}
use Rattle.formula_store.proofs.store.Store.adopt.Goals as goal

pub returns-in-Some-clause-link : goal.returns-in-Some-clause-link
returns-in-Some-clause-link c =
    IfOk-weaker c.copy.result _ _ (λ l is. is ∙ find_is _ _ _ (sym c.in-Some.ensures.key))
    c.copy.ensures

pub invariant_of-self-2 : goal.invariant_of-self-2
invariant_of-self-2 c = record {
  both_are = Remembers-interned _ c.self.inside.links.keys _ c.args.link c.self.inside.both
      c.self.invariant.both_are c.in_ok-insert.ensures.keys;
  either_are = Remembers-interned _ c.self.inside.links.keys _ c.args.link c.self.inside.either
      c.self.invariant.either_are c.in_ok-insert.ensures.keys;
  counted = c.in-Some-checked_add.ensures.1 ∙ set_count-interned c.self.inside.links.keys
      c.insert.new.self.keys c.args.link c.self.inside.set_count _ (sym c.in_default.ensures.found)
      c.in_ok-insert.ensures.keys c.self.invariant.counted
      (ap length (c.sets.ensures.sets ∙ c.antichain.ensures));
  are_antichains = antichains-interned c.self.inside.links.keys c.insert.new.self.keys c.args.link
      c.in_ok-insert.ensures.keys c.self.invariant.are_antichains
      (subst IsAntichain (c.sets.ensures.sets ∙ c.antichain.ensures) c.sets.ensures.antichain);
}
