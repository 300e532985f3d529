use Rattle.std.proofs.Common.{◌≡◌, ◌+◌, ◌++◌, ◌∷◌, [], List, Vec, Global, take, get_or, sym, ◌∙◌}
use Rattle.std.proofs.Common.{ap, subst, arith}
use Rattle.std.proofs.lemmas.List.{take_more, take_all}
use Rattle.dl_syntax.specs.declared.ontology.Basic.{Basic}
use Rattle.dl_syntax.specs.declared.ontology.Basic.TheVariants.{Concept}
use Rattle.saturate.specs.declared.graph.Arrow.{Arrow}
use Rattle.worklist.specs.Lists.{listed}
use Rattle.saturate.specs.Above.{IsIndex, arrow}
use Rattle.saturate.proofs.ListedAbove.{index-start, index-add, index-skip}
use Rattle.saturate.proofs.graph.index_by.Goals as goal
use Rattle.saturate.proofs.graph.index_by.Goals.{in-Some+in_ok-add_at-in-Some, in-None}

pub loop-arrow-init : goal.loop-arrow-init
loop-arrow-init c = index-start c.args.place c.new-lists.result.items c.new-lists.ensures.items

pub loop-arrow-preserved : goal.loop-arrow-preserved
loop-arrow-preserved c =
    let xs : List Arrow = take c.loop-arrow.arrow-index c.args.arrows.now in
    let d : Arrow = arrow (Concept (record { 0 = 0 })) (Concept (record { 0 = 0 })) in
    let x : Arrow = get_or c.args.arrows.now c.loop-arrow.arrow-index d in
    let more : take (c.loop-arrow.arrow-index + 1) c.args.arrows.now ≡ xs ++ x ∷ [] =
    take_more c.args.arrows.now c.loop-arrow.arrow-index d c.loop-arrow-test.true in
    subst (λ (ys : List Arrow). IsIndex c.args.place ys c.match-number_in.lists.items) (sym more)
    (elim c.match-number_in.branch [
      | in-Some+in_ok-add_at-in-Some w ↦
          index-add c.args.place xs x w.in-Some.number c.loop-arrow.lists.items
          c.match-number_in.lists.items c.loop-arrow.invariant
          (sym c.number_in.ensures ∙ w.in-Some.is)
          (λ k. ap (λ v. listed v.items k) w.lists-is ∙ w.in_ok-add_at-in-Some.ensures k)
      | in-None w ↦
          subst (λ (ls : List (Vec Basic Global)).
          IsIndex c.args.place (xs ++ x ∷ []) ls) (sym (ap (λ v. v.items) w.lists-is))
          (index-skip c.args.place xs x c.loop-arrow.lists.items c.loop-arrow.invariant
          (sym c.number_in.ensures ∙ w.in-None.is))
    ])

pub returns : goal.returns
returns c =
    let all : take c.loop-arrow.arrow-index c.args.arrows.now ≡ c.args.arrows.now =
    take_all c.loop-arrow.arrow-index c.args.arrows.now (omega arith) in
    subst (λ (xs : List Arrow). IsIndex c.args.place xs c.loop-arrow.lists.items) all
    c.loop-arrow.invariant
