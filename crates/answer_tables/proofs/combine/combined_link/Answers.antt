use Rattle.std.proofs.Common.{List, ℕ, sym, subst}
use Rattle.std.specs.List.{Contains}
use Rattle.std.proofs.lemmas.Result.{IfOk-weaker}
use Rattle.formula_store.proofs.Lists.{Contains-interned}
use Rattle.answer_tables.proofs.combine.combined_link.Goals as goal

pub returns-in-Or-clause-stored : goal.returns-in-Or-clause-stored
returns-in-Or-clause-stored c =
    IfOk-weaker c.either.result _ _ (λ (l : List ℕ) is.
    subst (λ (antichains : List (List ℕ)). Contains antichains l) (sym is)
    (Contains-interned c.args.store.now l)) c.either.ensures.ok

pub returns-in-And-clause-stored : goal.returns-in-And-clause-stored
returns-in-And-clause-stored c =
    IfOk-weaker c.both.result _ _ (λ (l : List ℕ) is.
    subst (λ (antichains : List (List ℕ)). Contains antichains l) (sym is)
    (Contains-interned c.args.store.now l)) c.both.ensures.ok
