use Rattle.std.proofs.Common.{◌≡◌, take, drop, rules}
use Rattle.std.specs.List.{filter}
use Rattle.std.specs.Ordering.{is_lt}
use Rattle.std.proofs.lemmas.List.{take_rest}
use Rattle.std.proofs.lemmas.List.Sorted.{IsPartitionPoint-from_clause}
use Rattle.fact_index.specs.Order.{element_cmp, element_eq, last_of}
use Rattle.fact_index.proofs.Orders.{element_cmp-total}
use Rattle.fact_index.proofs.SortedRuns.{key_apart, key_before_down, key_of_down, run_is}
use Rattle.fact_index.proofs.runs.with_last.Goals as goal
use Rattle.fact_index.proofs.runs.with_last.Goals.{After-partition_point-count}

-- what the two searches find
found : (c : After-partition_point-count)
    → take c.partition_point-count.result (drop c.partition_point-start.result c.args.facts.now)
    ≡ filter (λ f. element_eq (last_of f) c.args.element) c.args.facts.now
found c =
    run_is element_cmp-total (last_of) c.args.facts.now c.requires
    (λ f. is_lt (element_cmp (last_of f) c.args.element))
    (λ f. element_eq (last_of f) c.args.element)
    c.partition_point-start.result
    c.partition_point-count.result
    (key_before_down element_cmp-total last_of c.args.element)
    (key_of_down element_cmp-total last_of c.args.element)
    (key_apart element_cmp-total last_of c.args.element)
    c.partition_point-start.ensures.bound
    (λ p. IsPartitionPoint-from_clause (λ f.
    is_lt (element_cmp (last_of f) c.args.element)) c.args.facts.now
    c.partition_point-start.result c.partition_point-start.ensures.partitioned p (λ a r q k.
    search rules))
    (λ p. IsPartitionPoint-from_clause (λ f.
    element_eq (last_of f) c.args.element)
    (drop c.partition_point-start.result c.args.facts.now) c.partition_point-count.result
    (rw take_rest at c.partition_point-count.ensures.partitioned) p (λ a r q k. search rules))

pub returns : goal.returns
returns c = rw take_rest (found (goal.at.returns c).After-partition_point-count)
