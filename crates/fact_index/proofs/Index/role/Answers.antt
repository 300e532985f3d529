use Rattle.std.specs.List.{filter}
use Rattle.fact_index.specs.Order.{is_of_role}
use Rattle.fact_index.specs.Index.{is_role}
use Rattle.fact_index.proofs.PredicateTests.{filter_of_roles}
use Rattle.list_lemmas.proofs.Filters.{filter_members}
use Rattle.fact_index.proofs.Index.role.Goals as goal

pub returns-then-inverse-clause-members : goal.returns-then-inverse-clause-members
returns-then-inverse-clause-members c =
    rw (
      c.role_run_by_last.ensures.facts,
      c.as_slice.ensures.value,
      ← c.self.view_is,
      filter_of_roles c.args.id c.self.inside.facts.items,
    )
    (filter_members (is_of_role c.args.id) c.self.inside.by_last.items
    (filter is_role c.self.inside.facts.items) c.self.invariant.same)
