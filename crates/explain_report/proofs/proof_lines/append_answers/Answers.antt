use Rattle.std.proofs.Common.{◌≡◌, ℕ, List, length, ap, arith, subst}
use Rattle.tcq_syntax.specs.Tcq.{Tcq}
use Rattle.explain_report.specs.Answers.{IsEarlier, TellsMore}
use Rattle.explain_report.proofs.Goals.{none_told, all_told}
use Rattle.explain_report.proofs.proof_lines.append_answers.Goals as goal

pub loop-query-init : goal.loop-query-init
loop-query-init c = none_told c.args.source.now.explainer.now c.args.source.now.snapshot.now
    c.args.out.now.items

pub returns : goal.returns
returns c =
    let all : c.loop-query.query ≡ length c.args.source.now.explainer.now.queries =
    omega (arith, ap (λ (qs : List Tcq). length qs) c.queries.ensures.same) in
    all_told c.args.source.now.explainer.now c.args.source.now.snapshot.now
    c.args.out.now.items c.loop-query.out.items
    (subst (λ (n : ℕ). TellsMore (IsEarlier n 0) c.args.source.now.explainer.now
    c.args.source.now.snapshot.now c.args.out.now.items c.loop-query.out.items) all
    c.loop-query.invariant)
