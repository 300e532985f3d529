use Rattle.dl_syntax.specs.declared.ontology.Basic.TheVariants as basic
use Rattle.dl_syntax.specs.declared.ontology.Clash.{Clash}
use Rattle.dl_syntax.specs.declared.ontology.Clash.TheVariants as clash
use Rattle.list_lemmas.proofs.Zipped.{AllZip-next}
use Rattle.proof_search.specs.Explainer.{IsSearchOfClash}
use Rattle.proof_search.proofs.searches.clash_searches.Goals as goal

none : Clash
none = clash.Concepts (basic.Concept (record { 0 = 0 })) (basic.Concept (record { 0 = 0 }))

pub loop-clash-preserved : goal.loop-clash-preserved
unfolding none
loop-clash-preserved c =
    AllZip-next (IsSearchOfClash c.args.ontology.now c.args.room) c.clashes-clashes.result.now
    c.loop-clash.all.items c.push.new.self.items c.loop-clash.clash-index none
    c.in_ok-search.search c.loop-clash-test.true c.loop-clash.invariant
    (record {
      rewriting = c.in_ok-search.ensures.rewriting;
      few = c.in_ok-search.ensures.few;
    })
    c.in_ok-push.ensures.items
