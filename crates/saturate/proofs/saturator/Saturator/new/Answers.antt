use Rattle.std.proofs.Common.{◌≡◌, ℕ, ◌<◌, List, length, sym, ◌∙◌, ap, subst, arith}
use Rattle.dl_syntax.specs.declared.ontology.Inclusion.{Inclusion}
use Rattle.saturate.specs.declared.graph.Arrow.{Arrow}
use Rattle.saturate.specs.declared.graph.Scope.TheVariants.{Pairs, Elements}
use Rattle.saturate.specs.declared.graph.Place.TheVariants.{Member, First, Second}
use Rattle.saturate.specs.Above.{all_arrows, HasConcepts, HasRoles, IsConceptTable, IsRoleTable}
use Rattle.saturate.proofs.FactImplied.{few}
use Rattle.saturate.proofs.ListedAbove.{concept-table, role-table}
use Rattle.saturate.proofs.saturator.Saturator.new.Goals as goal

pub concept_table-requires : goal.concept_table-requires
concept_table-requires c =
    few Elements c.args.ontology.now.inclusions c.as_slice.result.now c.in_ok-elements.elements
    c.in_ok-elements.ensures
    (c.as_slice.ensures.value ∙ (c.in_ok-inclusions.ensures.items ∙ c.inclusions.ensures.same))
    c.inclusions.ensures.sound.few_inclusions

pub concept_table-requires-2 : goal.concept_table-requires-2
concept_table-requires-2 c =
    few Elements c.args.ontology.now.inclusions c.as_slice.result.now c.in_ok-elements.elements
    c.in_ok-elements.ensures
    (c.as_slice.ensures.value ∙ (c.in_ok-inclusions.ensures.items ∙ c.inclusions.ensures.same))
    c.inclusions.ensures.sound.few_inclusions

pub concept_table-requires-3 : goal.concept_table-requires-3
concept_table-requires-3 c =
    few Elements c.args.ontology.now.inclusions c.as_slice.result.now c.in_ok-elements.elements
    c.in_ok-elements.ensures
    (c.as_slice.ensures.value ∙ (c.in_ok-inclusions.ensures.items ∙ c.inclusions.ensures.same))
    c.inclusions.ensures.sound.few_inclusions

pub role_table-requires : goal.role_table-requires
role_table-requires c =
    few Pairs c.args.ontology.now.inclusions c.as_slice-2.result.now c.in_ok-pairs.pairs
    c.in_ok-pairs.ensures
    (c.as_slice-2.ensures.value ∙ (c.in_ok-inclusions.ensures.items ∙
    c.inclusions.ensures.same)) c.inclusions.ensures.sound.few_inclusions

pub invariant_of-result : goal.invariant_of-result
invariant_of-result c =
    let incs : List Inclusion = c.args.ontology.now.inclusions in
    let same : c.in_ok-inclusions.inclusions.items ≡ incs =
    c.in_ok-inclusions.ensures.items ∙ c.inclusions.ensures.same in
    let elements : c.in_ok-elements.elements ≡ all_arrows Elements incs =
    c.in_ok-elements.ensures ∙ ap (all_arrows Elements) (c.as_slice.ensures.value ∙ same) in
    let pairs : c.in_ok-pairs.pairs ≡ all_arrows Pairs incs =
    c.in_ok-pairs.ensures ∙ ap (all_arrows Pairs) (c.as_slice-2.ensures.value ∙ same) in
    let concepts : ℕ = length c.args.ontology.now.concepts in
    let roles : ℕ = length c.args.ontology.now.roles in
    let declared = c.inclusions.ensures.sound.inclusions_declared in (
      subst (λ (xs : List Inclusion). IsConceptTable xs Member c.in_ok-members.members.items)
          (sym same)
          (concept-table concepts roles incs declared Member c.count-concepts.result
          c.in_ok-members.members.items c.in_ok-members.ensures.long
          (subst (λ (xs : List Arrow).
          HasConcepts Member xs c.count-concepts.result c.in_ok-members.members.items) elements
          c.in_ok-members.ensures.exact)
          (λ k small. subst (λ (n : ℕ). k < n) (sym c.count-concepts.ensures.count) small)),
      subst (λ (xs : List Inclusion). IsConceptTable xs First c.in_ok-firsts.firsts.items)
          (sym same)
          (concept-table concepts roles incs declared First c.count-roles.result
          c.in_ok-firsts.firsts.items c.in_ok-firsts.ensures.long
          (subst (λ (xs : List Arrow).
          HasConcepts First xs c.count-roles.result c.in_ok-firsts.firsts.items) elements
          c.in_ok-firsts.ensures.exact)
          (λ k small. subst (λ (n : ℕ). k < n) (sym c.count-roles.ensures.count) small)),
      subst (λ (xs : List Inclusion). IsConceptTable xs Second c.in_ok-seconds.seconds.items)
          (sym same)
          (concept-table concepts roles incs declared Second c.count-roles.result
          c.in_ok-seconds.seconds.items c.in_ok-seconds.ensures.long
          (subst (λ (xs : List Arrow).
          HasConcepts Second xs c.count-roles.result c.in_ok-seconds.seconds.items) elements
          c.in_ok-seconds.ensures.exact)
          (λ k small. subst (λ (n : ℕ). k < n) (sym c.count-roles.ensures.count) small)),
      subst (λ (xs : List Inclusion). IsRoleTable xs c.in_ok-roles.roles.items) (sym same)
          (role-table concepts roles incs declared c.count-roles.result c.in_ok-roles.roles.items
          c.in_ok-roles.ensures.long
          (subst (λ (xs : List Arrow). HasRoles xs c.count-roles.result c.in_ok-roles.roles.items)
          pairs c.in_ok-roles.ensures.exact)
          (omega (arith, c.count-roles.ensures.count))),
    )
