use Rattle.std.proofs.Common.{◌≡◌, ℕ, inl, inr, sym, ◌∙◌}
use Rattle.std.specs.Prelude.{◌⊎◌}
use Rattle.dl_syntax.specs.declared.queries.Term.TheVariants.{Var}
use Rattle.query_unify.specs.Bindings.{image, Binds}
use Rattle.query_unify.proofs.Composed.{UnifiesPairs-composed, CannotUnifyPairs-second}
use Rattle.query_unify.proofs.unifier.unify_pairs.Goals as goal

pub returns-in_err-second-clause-unifies : goal.returns-in_err-second-clause-unifies
returns-in_err-second-clause-unifies c =
    rw c.from_residual-in_err-second.ensures
    (CannotUnifyPairs-second (image c.in_ok-first.first) c.args.a c.args.b c.args.c c.args.d _ _
    c.in_ok-first.ensures.unifies c.apply.ensures c.apply-2.ensures
    c.in_err-second.ensures.unifies)

pub returns-clause-unifies : goal.returns-clause-unifies
returns-clause-unifies c = UnifiesPairs-composed _ c.args.a c.args.b c.args.c c.args.d _ _
    c.in_ok-first.ensures.unifies c.apply.ensures c.apply-2.ensures c.in_ok-second.ensures.unifies

pub returns-clause-apart : goal.returns-clause-apart
returns-clause-apart c = λ v one other. by v one (c.in_ok-second.ensures.known v other)
  where
    by : (v : ℕ) → Binds c.in_ok-first.first v
        → (c.apply.result ≡ Var v) ⊎ (c.apply-2.result ≡ Var v) → ⊥
    by v one (inl is) = c.in_ok-first.ensures.gone v c.args.c one (sym c.apply.ensures ∙ is)
    by v one (inr is) = c.in_ok-first.ensures.gone v c.args.d one (sym c.apply-2.ensures ∙ is)
