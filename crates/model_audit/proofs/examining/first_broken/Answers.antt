-- Answers to the goals of `first_broken`: an inclusion that is not satisfied has a fact whose right
-- side is missing.
use Rattle.std.proofs.Common.{subst}
use Rattle.model_audit.specs.FiniteModels.{Satisfies}
use Rattle.model_audit.specs.First.{IsFirstLack}
use Rattle.model_audit.proofs.Findings.{unsatisfied_has_fact}
use Rattle.model_audit.proofs.examining.first_broken.Goals as goal

pub returns-in-None-first_unkept : goal.returns-in-None-first_unkept
returns-in-None-first_unkept c =
    absurd (unsatisfied_has_fact c.args.index.now c.args.facts.now c.requires.same
    c.args.inclusions.now c.in-Some.before _
    (subst (IsFirstLack (Satisfies c.args.index.now) c.args.inclusions.now) c.in-Some.is
    c.in_ok-before.ensures) c.in-None-first_unkept.ensures)
