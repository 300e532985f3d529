use Rattle.std.proofs.Common.{length, subst, arith, IsTrue, Contains, ◌<◌, get_or, Err, false}
use Rattle.fact_index.proofs.Orders.{exact_facts, fact_cmp-total}
use Rattle.fact_index.proofs.SortedRuns.{searched}
use Rattle.list_lemmas.proofs.Filters.{sorted_from_strict, one_at}
use Rattle.fact_index.proofs.Index.only.Goals as goal

pub returns-in-Ok : goal.returns-in-Ok
returns-in-Ok c f =
    let xs = c.self.inside.facts.items in
    let bound : c.in-Ok.place < length xs = rw c.deref.ensures.value at c.in-Ok.ensures.bound in
    let found = rw c.deref.ensures.value at c.in-Ok.ensures.ok in
    rw (c.as_slice.ensures.value, ← c.self.view_is)
    (one_at xs c.in-Ok.place c.args.fact.now f bound
    (exact_facts (get_or xs c.in-Ok.place c.args.fact.now) c.args.fact.now
    (found c.args.fact.now)))

pub returns-in-Err : goal.returns-in-Err
returns-in-Err c f =
    let xs = c.self.inside.facts.items in
    let hit = searched fact_cmp-total exact_facts xs c.args.fact.now (Err c.in-Err.field-0)
    (sorted_from_strict fact_cmp-total xs c.self.invariant.rising)
    (rw c.deref.ensures.value at c.in-Err.ensures.bound) tt
    (rw c.deref.ensures.value at c.in-Err.ensures.position) in
    rw (← c.self.view_is) (
      (λ m. absurd (omega (arith, m.1))),
      (λ m. let b : IsTrue false =
          hit.1 (subst (λ y. Contains xs y) m.1 m.0) in cc),
    )
