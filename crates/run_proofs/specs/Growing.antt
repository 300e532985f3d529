-- The run that the steps of a proof lead to. A step names an earlier fact by its place in the run,
-- counted from 0, and an inclusion by its number, counted from 1.
use Rattle.std.specs.Prelude.{◌≢◌, ◌<◌, ◌≤◌, List, [], ◌∷◌, ◌++◌, length}
use Rattle.dl_syntax.specs.declared.facts.Fact.{Fact}
use Rattle.dl_syntax.specs.declared.ontology.Inclusion.{Inclusion}
use Rattle.dl_syntax.specs.Growing.{made_at}
use Rattle.run_proofs.specs.declared.proof.ProofStep.{ProofStep}

-- what the step makes of the run
abbrev pub made_in : List Inclusion → List Fact → ProofStep → List Fact
made_in inclusions run step = made_at inclusions run step.from step.inclusion

-- the run, continued by what each step in turn makes
abbrev pub run_after : List Inclusion → List Fact → List ProofStep → List Fact
run_after inclusions run [] = run
run_after inclusions run (step ∷ steps) =
    run_after inclusions (run ++ made_in inclusions run step) steps

-- each step in turn makes something
abbrev pub AllMake : List Inclusion → List Fact → List ProofStep → Type 0
AllMake inclusions run [] = Unit {0}
AllMake inclusions run (step ∷ steps) = (made_in inclusions run step ≢ [])
    × AllMake inclusions (run ++ made_in inclusions run step) steps

-- the step names a fact of the run and an inclusion
abbrev pub NamesBoth : List Inclusion → List Fact → ProofStep → Type 0
NamesBoth inclusions run step = (step.from < length run) × (1 ≤ step.inclusion)
    × (step.inclusion ≤ length inclusions)
