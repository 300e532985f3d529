use Rattle.std.proofs.Common.{ℕ, sym, subst}
use Rattle.dl_syntax.specs.declared.ontology.Inclusion.{Inclusion}
use Rattle.query_unify.specs.Table.{IsNew, Becomes}
use Rattle.query_unify.proofs.Counts.{new_variable}
use Rattle.query_unify.proofs.steps.replacement.Goals as goal

pub returns-in-Some-pair_in : goal.returns-in-Some-pair_in
returns-in-Some-pair_in c =
    let fresh : (v : ℕ) × IsNew v c.args.cq.now = new_variable c.args.cq.now in (
      fresh.0,
      fresh.1,
      subst (λ (i : Inclusion). Becomes i c.args.cq.now fresh.0 c.args.atom.now c.role_atom.result)
          (sym c.in-Roles.is) (
            c.in-Some-pair_in.x,
            c.in-Some-pair_in.y,
            c.in-Some-pair_in.ensures,
            c.role_atom.ensures,
          ),
    )
