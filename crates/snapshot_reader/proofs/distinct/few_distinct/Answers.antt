use Rattle.std.proofs.Common.{◌≡◌, ◌∙◌, sym, ap, subst, get_or, List, true, Vec, Global}
use Rattle.std.specs.List.{Contains}
use Rattle.dl_syntax.specs.declared.facts.Fact.{Fact}
use Rattle.snapshot_reader.specs.Said.{with_fact}
use Rattle.snapshot_reader.proofs.DistinctFacts.{nothing_distinct, some_fact, front_distinct}
use Rattle.snapshot_reader.proofs.DistinctFacts.{repeated, new_fact}
use Rattle.snapshot_reader.proofs.distinct.few_distinct.Goals as goal
use Rattle.snapshot_reader.proofs.distinct.few_distinct.Goals.{then-not-has_fact+in_ok-push}
use Rattle.snapshot_reader.proofs.distinct.few_distinct.Goals.{else-not-has_fact}

pub loop-fact-init : goal.loop-fact-init
loop-fact-init c = c.in_ok-kept.ensures.items ∙ sym nothing_distinct

pub loop-fact-preserved : goal.loop-fact-preserved
loop-fact-preserved c =
    let facts = c.args.facts.now in
    let i = c.loop-fact.fact-index in
    let fact : Fact = get_or facts i some_fact in
    let kept : List Fact = c.loop-fact.kept.items in
    let more = front_distinct facts i c.loop-fact-test.true in
    elim c.if-not-has_fact.branch [
      | then-not-has_fact+in_ok-push w ↦
          let absent : Contains kept fact → ⊥ = λ there. let found : c.has_fact.result ≡ true =
          c.has_fact.ensures.1 (subst (λ (fs : List Fact).
          Contains fs fact) (sym c.as_slice.ensures.value) there) in cc in
          ap (λ (v : Vec Fact Global). v.items) w.kept-is ∙ w.in_ok-push.ensures.items ∙ sym
          (new_fact kept fact absent) ∙ ap (λ (fs : List Fact).
          with_fact fs fact) c.loop-fact.invariant ∙ sym more
      | else-not-has_fact w ↦
          let there : Contains kept fact =
          subst (λ (fs : List Fact). Contains fs fact) c.as_slice.ensures.value
          (c.has_fact.ensures.0 w.if-not-has_fact.false) in
          ap (λ (v : Vec Fact Global). v.items) w.kept-is ∙ sym (repeated kept fact there) ∙ ap
          (λ (fs : List Fact). with_fact fs fact) c.loop-fact.invariant ∙ sym more
    ]
