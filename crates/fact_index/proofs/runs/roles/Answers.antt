use Rattle.std.proofs.Common.{rules, not}
use Rattle.std.proofs.lemmas.List.{take_rest}
use Rattle.std.proofs.lemmas.List.Sorted.{IsPartitionPoint-from_clause}
use Rattle.list_lemmas.proofs.Filters.{sorted_from_strict}
use Rattle.fact_index.specs.Index.{is_role}
use Rattle.fact_index.proofs.Orders.{fact_cmp-total}
use Rattle.fact_index.proofs.SortedRuns.{filter_rest, partitioned}
use Rattle.fact_index.proofs.PredicateTests.{concept_down, roles_apart, roles_rest}
use Rattle.fact_index.proofs.runs.roles.Goals as goal

pub returns : goal.returns
returns c =
    rw take_rest (filter_rest (λ f. not (is_role f)) is_role c.args.facts.now
    c.partition_point.result c.partition_point.ensures.bound
    (IsPartitionPoint-from_clause (λ f. not (is_role f)) c.args.facts.now c.partition_point.result
    c.partition_point.ensures.partitioned
    (partitioned fact_cmp-total (λ f. f) c.args.facts.now
    (sorted_from_strict fact_cmp-total c.args.facts.now c.requires) (λ f.
    not (is_role f)) concept_down) (λ a r q k. search rules))
    roles_apart roles_rest)
