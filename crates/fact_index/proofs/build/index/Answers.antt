use Rattle.std.proofs.Common.{rules}
use Rattle.fact_index.specs.Order.{turned_of}
use Rattle.fact_index.proofs.Orders.{fact_cmp-total, fact_eq-equiv, fact_eq-same, fact_eq-ties}
use Rattle.fact_index.proofs.Orders.{last_cmp-total}
use Rattle.fact_index.proofs.PredicateTests.{last_ties}
use Rattle.list_lemmas.proofs.Filters.{members_of_dedup, rising_from_dedup}
use Rattle.std.proofs.lemmas.List.Sorted.{answers_always}
use Rattle.fact_index.proofs.build.index.Goals as goal

pub roles-requires : goal.roles-requires
roles-requires c =
    rw c.as_slice.ensures.value (rising_from_dedup fact_cmp-total fact_eq-ties
    c.sort_unstable.new.self.items c.dedup.new.self.items c.sort_unstable.ensures.sorted
    c.dedup.ensures.filtered)

pub returns-clause-rising : goal.returns-clause-rising
returns-clause-rising c =
    rising_from_dedup fact_cmp-total fact_eq-ties c.sort_unstable.new.self.items
    c.dedup.new.self.items c.sort_unstable.ensures.sorted c.dedup.ensures.filtered

pub returns-clause-members : goal.returns-clause-members
returns-clause-members c =
    rw (← c.facts.ensures.same, ← c.in_ok-sorted.ensures.items)
    (members_of_dedup fact_eq-equiv fact_eq-same c.in_ok-sorted.sorted.items
    c.sort_unstable.new.self.items c.dedup.new.self.items c.sort_unstable.ensures.permutation
    c.dedup.ensures.filtered)

pub invariant_of-result : goal.invariant_of-result
invariant_of-result c = record {
  rising = rising_from_dedup fact_cmp-total fact_eq-ties c.sort_unstable.new.self.items
      c.dedup.new.self.items c.sort_unstable.ensures.sorted c.dedup.ensures.filtered;
  last_rising = rising_from_dedup last_cmp-total last_ties c.sort_unstable_by_key.new.self.items
      c.dedup-2.new.self.items (c.sort_unstable_by_key.ensures.sorted turned_of
      (answers_always _ _ _ (λ f a r g called. search rules))) c.dedup-2.ensures.filtered;
  same = rw (← c.as_slice.ensures.value, ← c.roles.ensures, ← c.in_ok-by_last.ensures.items)
      (members_of_dedup fact_eq-equiv fact_eq-same c.in_ok-by_last.by_last.items
      c.sort_unstable_by_key.new.self.items c.dedup-2.new.self.items
      c.sort_unstable_by_key.ensures.permutation c.dedup-2.ensures.filtered);
}
