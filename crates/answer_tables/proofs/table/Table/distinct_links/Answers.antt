use Rattle.std.proofs.Common.{ℕ, List, sym, subst}
use Rattle.std.specs.Prelude.{◌↔◌}
use Rattle.std.specs.List.{Contains}
use Rattle.answer_tables.specs.Table.{HasAntichain}
use Rattle.answer_tables.proofs.Ranks.{exact_links}
use Rattle.answer_tables.proofs.table.Table.distinct_links.Goals as goal

pub returns-clause-exact : goal.returns-clause-exact
returns-clause-exact c =
    subst (λ (links : List (List ℕ)). (antichain : List ℕ)
    → Contains links antichain ↔ HasAntichain c.args.self.now antichain)
    (sym c.as_slice.ensures.value)
    (exact_links c.self.inside.slots c.self.inside.arity c.self.inside.links.items
    c.self.inside.ranks.value c.args.self.now c.self.view_is c.self.invariant)
