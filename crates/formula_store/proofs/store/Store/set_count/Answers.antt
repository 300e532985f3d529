use Rattle.std.proofs.Common.{subst}
use Rattle.std.specs.Prelude.{All}
use Rattle.antichains.specs.Antichain.{IsAntichain}
use Rattle.formula_store.proofs.store.Store.set_count.Goals as goal

pub returns-clause-antichains : goal.returns-clause-antichains
returns-clause-antichains c = subst (All IsAntichain) c.self.view_is c.self.invariant.are_antichains
