use Rattle.std.proofs.Common.{arith, ap, sym, ◌∙◌}
use Rattle.query_unify.specs.Table.{count_in_atoms}
use Rattle.query_unify.proofs.NewVariable.{IsNew-body, unused_number}
use Rattle.query_unify.proofs.steps.unused.Goals as goal

pub returns-then-count_in_atoms-eq0 : goal.returns-then-count_in_atoms-eq0
returns-then-count_in_atoms-eq0 c =
    IsNew-body c.args.cq.now c.loop-variable.variable c.requires
    (ap (count_in_atoms c.loop-variable.variable) (sym c.as_slice.ensures) ∙ sym
    c.count_in_atoms.ensures ∙ c.if-count_in_atoms-eq0.true)

pub returns : goal.returns
returns c = IsNew-body c.args.cq.now 16 c.requires
    (unused_number c.args.cq.now 16 c.requires (omega arith) (λ k below.
    c.loop-variable.invariant k (omega arith)))
