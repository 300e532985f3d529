use Rattle.std.proofs.Common.{List, subst}
use Rattle.dl_syntax.specs.declared.ontology.Inclusion.{Inclusion}
use Rattle.perfect_ref.specs.declared.rules.Side.TheVariants as side
use Rattle.perfect_ref.specs.Rules.{IsIndex}
use Rattle.perfect_ref.proofs.rules.Rules.new.Goals as goal

pub invariant_of-result : goal.invariant_of-result
invariant_of-result c = (
  c.requires,
  subst (λ (xs : List Inclusion). IsIndex side.Concept xs c.in_ok-concepts.concepts.items)
      c.as_slice.ensures.value c.in_ok-concepts.ensures,
  subst (λ (xs : List Inclusion). IsIndex side.Exists xs c.in_ok-existentials.existentials.items)
      c.as_slice-2.ensures.value c.in_ok-existentials.ensures,
  subst (λ (xs : List Inclusion). IsIndex side.Role xs c.in_ok-roles.roles.items)
      c.as_slice-3.ensures.value c.in_ok-roles.ensures,
)
