use Rattle.std.proofs.Common.{◌≡◌, List, ◌∙◌, sym, ap, subst}
use Rattle.dl_syntax.specs.declared.ontology.Inclusion.{Inclusion}
use Rattle.dl_syntax.specs.declared.queries.Atom.{Atom}
use Rattle.worklist.specs.Lists.{listed}
use Rattle.perfect_ref.specs.Rules.{IsCandidates}
use Rattle.perfect_ref.proofs.Indexed.{Lists, candidates-concept, candidates-role}
use Rattle.perfect_ref.proofs.rules.Rules.candidates.Goals as goal

of_parts : (inclusions inclusions' : List Inclusion) (a a' : Atom) (list list' : List Inclusion)
    → inclusions ≡ inclusions' → a' ≡ a → list' ≡ list → IsCandidates inclusions a list
    → IsCandidates inclusions' a' list'
of_parts inclusions inclusions' a a' list list' e f g is =
    subst (λ (xs : List Inclusion). IsCandidates xs a' list') e
    (subst (λ (z : Atom). IsCandidates inclusions z list') (sym f)
    (subst (IsCandidates inclusions a) (sym g) is))

pub returns-in-Concept : goal.returns-in-Concept
returns-in-Concept c =
    of_parts _ _ _ _ _ _ c.self.view_is c.in-Concept.is
    (c.list_at.ensures ∙ ap (λ (lists : Lists).
    listed lists c.in-Concept.id.0) c.as_slice.ensures.value)
    (candidates-concept c.self.inside.inclusions.items c.self.invariant.0
    c.self.inside.concepts.items c.self.invariant.1 c.in-Concept.id c.in-Concept.field-1)

pub returns-in-Role : goal.returns-in-Role
returns-in-Role c =
    of_parts _ _ _ _ _ _ c.self.view_is c.in-Role.is
    (c.list_at-in-Role.ensures ∙ ap (λ (lists : Lists).
    listed lists c.in-Role.id.0) c.as_slice-in-Role.ensures.value)
    (candidates-role c.self.inside.inclusions.items c.self.invariant.0 c.self.inside.roles.items
    c.self.invariant.3 c.in-Role.id c.in-Role.field-1 c.in-Role.field-2)
