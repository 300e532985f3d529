use Rattle.std.proofs.Common.{◌≡◌, ◌+◌, ◌++◌, ◌∷◌, [], List, take, sym, ◌∙◌, ap, subst, arith}
use Rattle.std.proofs.lemmas.List.{take_more, take_all}
use Rattle.dl_syntax.specs.declared.names.ConceptId.{ConceptId}
use Rattle.dl_syntax.specs.declared.ontology.Basic.{Basic}
use Rattle.dl_syntax.specs.declared.ontology.Basic.TheVariants as basic
use Rattle.saturate.specs.Above.{ConceptsOf}
use Rattle.saturate.proofs.ListedAbove.{concepts-more, concepts-skip}
use Rattle.saturate.proofs.tables.concepts_of.Goals as goal
use Rattle.saturate.proofs.tables.concepts_of.Goals.{in-Concept+in_ok-push-in-Concept, in-Some}

pub loop-basic-preserved : goal.loop-basic-preserved
loop-basic-preserved c =
    let xs : List Basic = take c.loop-basic.basic-index c.args.basics.now in
    elim c.match-basic.branch [
      | in-Concept+in_ok-push-in-Concept w ↦
          (let here = w.in-Concept.is in
          let more : take (c.loop-basic.basic-index + 1) c.args.basics.now
          ≡ xs ++ basic.Concept w.in-Concept.id ∷ [] =
          take_more c.args.basics.now c.loop-basic.basic-index
          (basic.Concept (record { 0 = 0 })) c.loop-basic-test.true ∙ ap (λ (b : Basic).
          xs ++ b ∷ []) here in
          subst (λ (ys : List Basic). ConceptsOf ys c.match-basic.concepts.items) (sym more)
          (concepts-more xs c.loop-basic.concepts.items c.match-basic.concepts.items w.in-Concept.id
          (ap (λ v. v.items) w.concepts-is ∙ w.in_ok-push-in-Concept.ensures.items)
          c.loop-basic.invariant))
      | in-Some w ↦
          (let here = w.in-Some.is in
          let more : take (c.loop-basic.basic-index + 1) c.args.basics.now
          ≡ xs ++ basic.Some w.in-Some.field-0 ∷ [] =
          take_more c.args.basics.now c.loop-basic.basic-index
          (basic.Concept (record { 0 = 0 })) c.loop-basic-test.true ∙ ap (λ (b : Basic).
          xs ++ b ∷ []) here in
          subst (λ (ys : List Basic). ConceptsOf ys c.match-basic.concepts.items) (sym more)
          (subst (λ (cs : List ConceptId). ConceptsOf (xs ++ basic.Some w.in-Some.field-0 ∷ []) cs)
          (sym (ap (λ v. v.items) w.concepts-is))
          (concepts-skip xs c.loop-basic.concepts.items w.in-Some.field-0 c.loop-basic.invariant)))
    ]

pub returns : goal.returns
returns c =
    let all : take c.loop-basic.basic-index c.args.basics.now ≡ c.args.basics.now =
    take_all c.loop-basic.basic-index c.args.basics.now (omega arith) in
    subst (λ (xs : List Basic). ConceptsOf xs c.loop-basic.concepts.items) all
    c.loop-basic.invariant
