use Rattle.std.proofs.Common.{◌≡◌, take, drop, sym, subst, rules, List}
use Rattle.std.specs.List.{filter}
use Rattle.std.specs.List.Sorted.{IsSortedByKey}
use Rattle.std.specs.Ordering.{is_lt}
use Rattle.std.proofs.lemmas.List.{take_rest}
use Rattle.std.proofs.lemmas.List.Kept.{IsStrictlySortedBy-filter}
use Rattle.std.specs.List.Sorted.{IsStrictlySortedBy}
use Rattle.std.proofs.lemmas.List.Sorted.{IsPartitionPoint-from_clause}
use Rattle.list_lemmas.proofs.Filters.{sorted_from_strict}
use Rattle.dl_syntax.specs.declared.facts.Fact.{Fact}
use Rattle.fact_index.specs.Order.{element_cmp, fact_cmp, first_of, is_of_concept}
use Rattle.fact_index.specs.Index.{is_before_concept}
use Rattle.fact_index.proofs.Orders.{fact_cmp-total}
use Rattle.fact_index.proofs.SortedRuns.{filter_ordered, run_is}
use Rattle.fact_index.proofs.PredicateTests.{before_concept_down, concept_by_first}
use Rattle.fact_index.proofs.PredicateTests.{concept_not_before, of_concept_down}
use Rattle.fact_index.proofs.runs.concept_run.Goals as goal
use Rattle.fact_index.proofs.runs.concept_run.Goals.{After-partition_point-count}

-- what the two searches find
found : (c : After-partition_point-count)
    → take c.partition_point-count.result (drop c.partition_point-start.result c.args.facts.now)
    ≡ filter (is_of_concept c.args.id) c.args.facts.now
found c =
    run_is fact_cmp-total (λ f. f) c.args.facts.now
    (sorted_from_strict fact_cmp-total c.args.facts.now c.requires)
    (is_before_concept c.args.id)
    (is_of_concept c.args.id)
    c.partition_point-start.result
    c.partition_point-count.result
    (before_concept_down c.args.id)
    (of_concept_down c.args.id)
    (concept_not_before c.args.id)
    c.partition_point-start.ensures.bound
    (λ p. IsPartitionPoint-from_clause (is_before_concept c.args.id) c.args.facts.now
    c.partition_point-start.result c.partition_point-start.ensures.partitioned p (λ a r q k.
    search rules))
    (λ p. IsPartitionPoint-from_clause (is_of_concept c.args.id)
    (drop c.partition_point-start.result c.args.facts.now) c.partition_point-count.result
    (rw take_rest at c.partition_point-count.ensures.partitioned) p (λ a r q k. search rules))

pub returns-clause-facts : goal.returns-clause-facts
returns-clause-facts c =
    rw take_rest (found (goal.at.returns-clause-facts c).After-partition_point-count)

pub returns-clause-ordered : goal.returns-clause-ordered
returns-clause-ordered c =
    let P : List Fact → Type 0 = λ ys. IsSortedByKey first_of element_cmp ys in
    rw take_rest (subst P
    (sym (found (goal.at.returns-clause-ordered c).After-partition_point-count))
    (filter_ordered fact_cmp-total (λ f.
    f) c.args.facts.now (sorted_from_strict fact_cmp-total c.args.facts.now c.requires)
    (is_of_concept c.args.id) (λ x y. is_lt (element_cmp (first_of x) (first_of y)))
    (concept_by_first c.args.id)))

pub returns-clause-rising : goal.returns-clause-rising
returns-clause-rising c =
    let P : List Fact → Type 0 = λ ys. IsStrictlySortedBy fact_cmp ys in
    rw take_rest (subst P
    (sym (found (goal.at.returns-clause-rising c).After-partition_point-count))
    (IsStrictlySortedBy-filter fact_cmp (is_of_concept c.args.id) c.args.facts.now c.requires))
