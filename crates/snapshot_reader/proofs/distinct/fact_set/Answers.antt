use Rattle.std.proofs.Common.{◌∙◌, sym, ap, get_or, List, rules}
use Rattle.dl_syntax.specs.contracts.facts.FactPartialEq.TheImpl.{eq-value}
use Rattle.dl_syntax.specs.declared.facts.Fact.{Fact}
use Rattle.snapshot_reader.specs.Said.{with_fact}
use Rattle.snapshot_reader.proofs.DistinctFacts.{nothing_distinct, some_fact, front_distinct}
use Rattle.snapshot_reader.proofs.DistinctFacts.{inserted}
use Rattle.snapshot_reader.proofs.distinct.fact_set.Goals as goal

pub loop-fact-init : goal.loop-fact-init
loop-fact-init c = c.in_ok-set.ensures.empty ∙ sym nothing_distinct

pub loop-fact-preserved : goal.loop-fact-preserved
loop-fact-preserved c =
    let facts = c.args.facts.now in
    let i = c.loop-fact.fact-index in
    let fact : Fact = get_or facts i some_fact in
    inserted eq-value.it c.loop-fact.set.keys c.insert.new.self.keys fact
    c.in_ok-insert.ensures.keys (λ a b. search rules)
    ∙ ap (λ (keys : List Fact). with_fact keys fact) c.loop-fact.invariant ∙ sym
    (front_distinct facts i c.loop-fact-test.true)
