use Rattle.std.proofs.Common.{◌≡◌, ◌++◌, ◌∷◌, [], take}
use Rattle.std.specs.Prelude.{flat_map}
use Rattle.run_proofs.specs.Texts.{step_text}
use Rattle.explain_report.proofs.proof_lines.append_steps.Given as goal

abbrev pub invariant-loop-step : goal.invariant-loop-step
invariant-loop-step l = l.out.items
    ≡ l.initial.out.items ++ flat_map (λ s. step_text s ++ 10 ∷ []) (take l.step-index l.steps)
