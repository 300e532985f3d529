use Rattle.std.proofs.Common.{◌≡◌, refl, ◌+◌, ◌++◌, ◌∷◌, [], List, take, get_or, sym, ◌∙◌, ap}
use Rattle.std.proofs.Common.{subst, arith}
use Rattle.std.proofs.lemmas.List.{take_more, take_all}
use Rattle.dl_syntax.specs.declared.ontology.Inclusion.{Inclusion}
use Rattle.dl_syntax.specs.declared.ontology.Inclusion.TheVariants.{Concepts}
use Rattle.dl_syntax.specs.declared.ontology.Basic.TheVariants.{Concept}
use Rattle.worklist.specs.Lists.{listed}
use Rattle.perfect_ref.specs.Rules.{IsIndex}
use Rattle.perfect_ref.proofs.Indexed.{Lists, index-start, index-add, index-skip}
use Rattle.perfect_ref.proofs.rules.index_by.Goals as goal
use Rattle.perfect_ref.proofs.rules.index_by.Goals.{in-Some+in_ok-add_at-in-Some, in-None}

pub loop-inclusion-init : goal.loop-inclusion-init
loop-inclusion-init c = index-start c.args.side [] c.new-lists.result.items refl
    c.new-lists.ensures.items

pub loop-inclusion-preserved : goal.loop-inclusion-preserved
loop-inclusion-preserved c =
    let xs : List Inclusion = take c.loop-inclusion.inclusion-index c.args.inclusions.now in
    let d : Inclusion = Concepts (Concept (record { 0 = 0 })) (Concept (record { 0 = 0 })) in
    let x : Inclusion = get_or c.args.inclusions.now c.loop-inclusion.inclusion-index d in
    let more : take (c.loop-inclusion.inclusion-index + 1) c.args.inclusions.now ≡ xs ++ x ∷ [] =
    take_more c.args.inclusions.now c.loop-inclusion.inclusion-index d
    c.loop-inclusion-test.true in
    subst (λ (ys : List Inclusion). IsIndex c.args.side ys c.match-number_on.lists.items) (sym more)
    (elim c.match-number_on.branch [
      | in-Some+in_ok-add_at-in-Some w ↦
          index-add c.args.side xs x w.in-Some.number c.loop-inclusion.lists.items
          c.match-number_on.lists.items c.loop-inclusion.invariant
          (sym c.number_on.ensures ∙ w.in-Some.is)
          (λ k. ap (λ v. listed v.items k) w.lists-is ∙ w.in_ok-add_at-in-Some.ensures k)
      | in-None w ↦
          subst (λ (ls : Lists). IsIndex c.args.side (xs ++ x ∷ []) ls)
          (sym (ap (λ v. v.items) w.lists-is))
          (index-skip c.args.side xs x c.loop-inclusion.lists.items c.loop-inclusion.invariant
          (sym c.number_on.ensures ∙ w.in-None.is))
    ])

pub returns : goal.returns
returns c =
    let all : take c.loop-inclusion.inclusion-index c.args.inclusions.now ≡ c.args.inclusions.now =
    take_all c.loop-inclusion.inclusion-index c.args.inclusions.now (omega arith) in
    subst (λ (xs : List Inclusion). IsIndex c.args.side xs c.loop-inclusion.lists.items) all
    c.loop-inclusion.invariant
