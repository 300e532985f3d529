use Rattle.std.proofs.Common.{ℕ, List, sym, ◌∙◌, subst}
use Rattle.std.specs.List.{Contains}
use Rattle.std.proofs.lemmas.Result.{IfOk-weaker}
use Rattle.antichains.specs.Sets.{holds}
use Rattle.antichains.specs.Antichain.{IsMinimal, values_at}
use Rattle.formula_store.proofs.Lists.{Contains-interned}
use Rattle.answer_tables.specs.Substituting.{antichains_at}
use Rattle.answer_tables.proofs.Substitutions.{shape_tuples}
use Rattle.answer_tables.proofs.substitute.substituted_link.Goals as goal

pub returns-clause-link : goal.returns-clause-link
returns-clause-link c =
    IfOk-weaker c.substituted.result _ _ (λ (l : List ℕ) minimal tuple tup num.
    subst (λ (x : List ℕ). IsMinimal (λ v.
    holds x (values_at (antichains_at c.args.values.now tuple) v)) l)
    (c.at_rank.ensures tuple tup num)
    (subst (λ (xs : List (List ℕ)). IsMinimal (λ v. holds c.at_rank.result.now (values_at xs v)) l)
    (c.as_slice.ensures.value ∙ c.in_ok-row.ensures tuple
    (shape_tuples c.args.table.now.slots c.args.table.now.arity c.args.rank c.args.values.now
    tuple c.requires.shape tup num)) minimal)) c.substituted.ensures.link

pub returns-clause-stored : goal.returns-clause-stored
returns-clause-stored c = IfOk-weaker c.substituted.result _ _ (λ (l : List ℕ) is.
    subst (λ (antichains : List (List ℕ)). Contains antichains l) (sym is)
    (Contains-interned c.args.store.now l)) c.substituted.ensures.ok
