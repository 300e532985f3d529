use Rattle.std.proofs.Common.{◌≡◌, List, take, subst, arith}
use Rattle.std.specs.List.{All}
use Rattle.std.proofs.lemmas.List.{take_all}
use Rattle.dl_syntax.specs.declared.facts.Fact.{Fact}
use Rattle.consistency.specs.Marking.{IsMarked}
use Rattle.consistency.proofs.MarkBits.{all_marked_next}
use Rattle.consistency.proofs.marks.mark_all.Goals as goal

pub loop-fact-preserved : goal.loop-fact-preserved
loop-fact-preserved c = all_marked_next c.args.concepts c.args.width c.loop-fact.words
    c.mark_fact.new.words c.args.facts.now c.loop-fact.fact-index _ c.loop-fact-test.true
    c.mark_fact.ensures.kept c.loop-fact.invariant c.mark_fact.ensures.marked

pub returns : goal.returns
returns c =
    let all : take c.loop-fact.fact-index c.args.facts.now ≡ c.args.facts.now =
    take_all c.loop-fact.fact-index c.args.facts.now (omega arith) in
    subst (λ (fs : List Fact). All (IsMarked c.args.concepts c.args.width c.loop-fact.words) fs) all
    c.loop-fact.invariant
