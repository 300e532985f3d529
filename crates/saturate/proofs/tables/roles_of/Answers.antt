use Rattle.std.proofs.Common.{◌≡◌, ◌+◌, ◌++◌, ◌∷◌, [], List, take, sym, ◌∙◌, ap, subst, arith}
use Rattle.std.proofs.lemmas.List.{take_more, take_all}
use Rattle.dl_syntax.specs.declared.ontology.Role.{Role}
use Rattle.dl_syntax.specs.declared.ontology.Basic.{Basic}
use Rattle.dl_syntax.specs.declared.ontology.Basic.TheVariants as basic
use Rattle.saturate.specs.Above.{RolesOf}
use Rattle.saturate.proofs.ListedAbove.{roles-more, roles-skip}
use Rattle.saturate.proofs.tables.roles_of.Goals as goal
use Rattle.saturate.proofs.tables.roles_of.Goals.{in-Some+in_ok-push-in-Some, in-Concept}

pub loop-basic-preserved : goal.loop-basic-preserved
loop-basic-preserved c =
    let xs : List Basic = take c.loop-basic.basic-index c.args.basics.now in
    elim c.match-basic.branch [
      | in-Some+in_ok-push-in-Some w ↦
          (let here = w.in-Some.is in
          let more : take (c.loop-basic.basic-index + 1) c.args.basics.now
          ≡ xs ++ basic.Some w.in-Some.role ∷ [] =
          take_more c.args.basics.now c.loop-basic.basic-index
          (basic.Concept (record { 0 = 0 })) c.loop-basic-test.true ∙ ap (λ (b : Basic).
          xs ++ b ∷ []) here in
          subst (λ (ys : List Basic). RolesOf ys c.match-basic.roles.items) (sym more)
          (roles-more xs c.loop-basic.roles.items c.match-basic.roles.items w.in-Some.role
          (ap (λ v. v.items) w.roles-is ∙ w.in_ok-push-in-Some.ensures.items)
          c.loop-basic.invariant))
      | in-Concept w ↦
          (let here = w.in-Concept.is in
          let more : take (c.loop-basic.basic-index + 1) c.args.basics.now
          ≡ xs ++ basic.Concept w.in-Concept.field-0 ∷ [] =
          take_more c.args.basics.now c.loop-basic.basic-index
          (basic.Concept (record { 0 = 0 })) c.loop-basic-test.true ∙ ap (λ (b : Basic).
          xs ++ b ∷ []) here in
          subst (λ (ys : List Basic). RolesOf ys c.match-basic.roles.items) (sym more)
          (subst (λ (cs : List Role). RolesOf (xs ++ basic.Concept w.in-Concept.field-0 ∷ []) cs)
          (sym (ap (λ v. v.items) w.roles-is))
          (roles-skip xs c.loop-basic.roles.items w.in-Concept.field-0 c.loop-basic.invariant)))
    ]

pub returns : goal.returns
returns c =
    let all : take c.loop-basic.basic-index c.args.basics.now ≡ c.args.basics.now =
    take_all c.loop-basic.basic-index c.args.basics.now (omega arith) in
    subst (λ (xs : List Basic). RolesOf xs c.loop-basic.roles.items) all c.loop-basic.invariant
