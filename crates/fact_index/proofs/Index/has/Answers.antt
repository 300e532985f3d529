use Rattle.fact_index.proofs.Orders.{exact_facts, fact_cmp-total}
use Rattle.fact_index.proofs.SortedRuns.{searched}
use Rattle.fact_index.proofs.Index.has.Goals as goal
use Rattle.list_lemmas.proofs.Filters.{sorted_from_strict}

pub returns : goal.returns
returns c =
    rw (← c.self.view_is, c.is_ok.ensures.value)
    (searched fact_cmp-total exact_facts c.self.inside.facts.items c.args.fact.now
    c.binary_search.result
    (sorted_from_strict fact_cmp-total c.self.inside.facts.items c.self.invariant.rising)
    (rw c.deref.ensures.value at c.binary_search.ensures.bound)
    (rw c.deref.ensures.value at c.binary_search.ensures.ok)
    (rw c.deref.ensures.value at c.binary_search.ensures.position))
