use Rattle.std.proofs.Common.{subst}
use Rattle.formula_store.specs.Interned.{AreDistinct}
use Rattle.formula_store.proofs.Lists.{AreDistinct-keys}
use Rattle.formula_store.proofs.store.Store.links.Goals as goal

pub returns-clause-distinct : goal.returns-clause-distinct
returns-clause-distinct c =
    subst AreDistinct c.self.view_is (AreDistinct-keys c.self.inside.links.keys
    c.as_slice.ensures.unique)
