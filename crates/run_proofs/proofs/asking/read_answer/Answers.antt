use Rattle.std.proofs.Common.{◌≡◌, ℕ, arith, below_more, subst}
use Rattle.run_proofs.specs.Asking.{IsNoAnswerOf}
use Rattle.run_proofs.proofs.AskedLines.{none_asked}
use Rattle.run_proofs.proofs.asking.read_answer.Goals as goal

pub returns-in_default : goal.returns-in_default
returns-in_default c =
    none_asked c.args.ontology.now c.args.queries.now c.args.text.now
    (λ k small within. c.loop-place.invariant k (omega (arith, c.in_default.ensures)))

pub loop-place-preserved : goal.loop-place-preserved
loop-place-preserved c =
    let same : c.in-Ok.query ≡ c.loop-place.place = grind (arith, c.in-Ok.ensures) in
    let none = rw c.in_default-2.is at c.in_ok-goal.ensures in
    below_more _ _ c.loop-place.invariant
    (subst (λ (k : ℕ). IsNoAnswerOf c.args.ontology.now c.args.queries.now k c.args.text.now) same
    none)

pub returns : goal.returns
returns c =
    none_asked c.args.ontology.now c.args.queries.now c.args.text.now
    (λ k small within. c.loop-place.invariant k (omega arith))
