use Rattle.std.proofs.Common.{arith}
use Rattle.run_proofs.specs.Texts.{fact_text}
use Rattle.run_proofs.proofs.PrintedTexts.{flat_more, flat_all}
use Rattle.run_proofs.proofs.printing.append_facts.Goals as goal

pub loop-fact-preserved : goal.loop-fact-preserved
loop-fact-preserved c =
    flat_more (fact_text c.args.ontology.now) c.args.facts.now c.loop-fact.fact-index _ _ _ _
    c.loop-fact-test.true c.loop-fact.invariant
    c.in_ok-append_fact.ensures

pub returns : goal.returns
returns c =
    flat_all (fact_text c.args.ontology.now) c.args.facts.now c.loop-fact.fact-index _ _
    (omega arith)
    c.loop-fact.invariant
