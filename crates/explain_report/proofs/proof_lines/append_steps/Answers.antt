use Rattle.std.proofs.Common.{[], ◌∷◌, ◌++◌, arith}
use Rattle.run_proofs.specs.Texts.{step_text}
use Rattle.run_proofs.proofs.PrintedTexts.{flat_more, flat_all, ended}
use Rattle.explain_report.proofs.proof_lines.append_steps.Goals as goal

pub loop-step-preserved : goal.loop-step-preserved
loop-step-preserved c =
    flat_more (λ s. step_text s ++ 10 ∷ []) c.args.steps.now c.loop-step.step-index _ _ _ _
    c.loop-step-test.true c.loop-step.invariant
    (ended _ _ _ _ c.in_ok-append_step.ensures c.in_ok-extend_from_slice.ensures.items)

pub returns : goal.returns
returns c =
    flat_all (λ s. step_text s ++ 10 ∷ []) c.args.steps.now c.loop-step.step-index _ _
    (omega arith) c.loop-step.invariant
