use Rattle.std.proofs.Common.{List, ◌∙◌, ap, subst, sym}
use Rattle.std.specs.List.{Contains}
use Rattle.dl_syntax.specs.declared.queries.Term.{Term}
use Rattle.dl_syntax.specs.declared.queries.Term.TheVariants.{Var}
use Rattle.query_unify.specs.Table.{count_in_atoms}
use Rattle.query_unify.proofs.NewVariable.{unbound_by, bound_by}
use Rattle.query_unify.proofs.steps.is_unbound.Goals as goal

pub returns-then-not-has_term : goal.returns-then-not-has_term
returns-then-not-has_term c =
    unbound_by c.args.variable c.args.cq.now c.count_in_atoms.result
    (c.count_in_atoms.ensures ∙ ap (count_in_atoms c.args.variable)
    c.as_slice-then-not-has_term.ensures)
    (λ there. let found = c.has_term.ensures.1
    (subst (λ (terms : List Term). Contains terms (Var c.args.variable))
    (sym c.as_slice.ensures) there) in let not_found = c.if-not-has_term.true in absurd (cc))

pub returns-else-not-has_term : goal.returns-else-not-has_term
returns-else-not-has_term c =
    let there : Contains c.args.cq.now.head (Var c.args.variable) =
    subst (λ (terms : List Term). Contains terms (Var c.args.variable)) c.as_slice.ensures
    (c.has_term.ensures.0 c.if-not-has_term.false) in (
      λ h. let found = c.if-not-has_term.false in
          absurd (cc),
      λ unbound. absurd (bound_by c.args.variable c.args.cq.now there unbound),
    )
