use Rattle.std.proofs.Common.{◌≡◌, List, ◌∙◌, sym, ap, subst}
use Rattle.dl_syntax.specs.declared.ontology.Inclusion.{Inclusion}
use Rattle.dl_syntax.specs.declared.queries.Atom.{Atom}
use Rattle.worklist.specs.Lists.{listed}
use Rattle.perfect_ref.specs.Rules.{IsNullMakers}
use Rattle.perfect_ref.proofs.Indexed.{Lists, null_makers-role}
use Rattle.perfect_ref.proofs.rules.Rules.null_makers.Goals as goal

of_parts : (inclusions inclusions' : List Inclusion) (a a' : Atom) (list list' : List Inclusion)
    → inclusions ≡ inclusions' → a' ≡ a → list' ≡ list → IsNullMakers inclusions a list
    → IsNullMakers inclusions' a' list'
of_parts inclusions inclusions' a a' list list' e f g is =
    subst (λ (xs : List Inclusion). IsNullMakers xs a' list') e
    (subst (λ (z : Atom). IsNullMakers inclusions z list') (sym f)
    (subst (IsNullMakers inclusions a) (sym g) is))

pub returns-in-Role : goal.returns-in-Role
returns-in-Role c =
    of_parts _ _ _ _ _ _ c.self.view_is c.in-Role.is
    (c.list_at.ensures ∙ ap (λ (lists : Lists).
    listed lists c.in-Role.id.0) c.as_slice.ensures.value)
    (null_makers-role c.self.inside.inclusions.items c.self.invariant.0
    c.self.inside.existentials.items c.self.invariant.2 c.in-Role.id c.in-Role.field-1
    c.in-Role.field-2)
