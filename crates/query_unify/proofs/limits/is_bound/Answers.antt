use Rattle.std.proofs.Common.{◌<◌, sym, subst, arith}
use Rattle.std.specs.Prelude.{◌↔◌, IsTrue, nat_lt}
use Rattle.std.proofs.lemmas.Bool.Decides.{nat_tests}
use Rattle.dl_syntax.specs.declared.queries.Term.{Term}
use Rattle.dl_syntax.specs.declared.queries.Term.TheVariants.{Var}
use Rattle.dl_syntax.specs.Queries.{IsBound}
use Rattle.query_unify.proofs.NewVariable.{bound_counted}
use Rattle.query_unify.proofs.limits.is_bound.Goals as goal

pub returns-in-Var : goal.returns-in-Var
returns-in-Var c =
    let exact : (0 < c.count_in_atoms.result) ↔ IsBound c.args.body.now (Var c.in-Var.variable) =
    bound_counted c.in-Var.variable c.args.body.now c.count_in_atoms.result
    c.count_in_atoms.ensures in
    let to : IsTrue (nat_lt 0 c.count_in_atoms.result)
    → 0 < c.count_in_atoms.result = λ h. grind (arith, nat_tests) in
    let from : 0 < c.count_in_atoms.result → IsTrue (nat_lt 0 c.count_in_atoms.result) =
    λ h. grind (arith, nat_tests) in
    subst (λ (x : Term). IsTrue (nat_lt 0 c.count_in_atoms.result)
    ↔ IsBound c.args.body.now x) (sym c.in-Var.is) (λ h. exact.0 (to h), λ h. from (exact.1 h))
