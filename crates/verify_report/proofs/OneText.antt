-- A line is told in one way.
use Rattle.std.proofs.Common.{◌≡◌, ℕ, List, sym, ap, ◌∙◌, subst, refl, inl, inr}
use Rattle.std.proofs.Common.{arith}
use Rattle.std.specs.Prelude.{Bool, true, false, ◌↔◌, IsTrue}
use Rattle.dl_syntax.specs.declared.facts.Fact.{Fact}
use Rattle.edge_io.specs.Lines.{Item as StreamLine, text, too_long}
use Rattle.report_text.specs.Names.{Text}
use Rattle.run_proofs.specs.declared.proof.Goal.{Goal}
use Rattle.run_proofs.specs.declared.proof.ProofStep.{ProofStep}
use Rattle.run_proofs.specs.declared.proof.Ending.{Ending}
use Rattle.run_proofs.specs.declared.proof.Ending.TheVariants as ending
use Rattle.run_proofs.specs.declared.proof.Proof.{Proof}
use Rattle.run_proofs.specs.Texts.{step_text, ending_text}
use Rattle.run_proofs.proofs.OneReading.{one_step}
use Rattle.run_proofs.proofs.OneLine.{one_goal_told, one_ending_told}
use Rattle.run_proofs.proofs.Spread.{apart_at}
use Rattle.stream_report.specs.Laws.{IsOneValued, HasOneText}
use Rattle.verify_report.specs.declared.stage.Stage.{Stage}
use Rattle.verify_report.specs.declared.stage.Stage.TheVariants.{Outside, Begun, Given, Whole}
use Rattle.verify_report.specs.declared.outcome.Outcome.{Outcome}
use Rattle.verify_report.specs.declared.outcome.Outcome.TheVariants.{Goes, Refused, Answered}
use Rattle.verify_report.specs.Outcome.{Task, ComesOutside, ComesInSteps, ComesAtEnd, ComesTo}
use Rattle.verify_report.specs.Outcome.{outcome_of_step, whole_proof}
use Rattle.verify_report.specs.Report.{Standing, Replies, verifies, verifying}
use Rattle.verify_report.specs.Laws.{NamesApart}

-- ---- what a line comes to

outside_once : (task : Task) → NamesApart task → (line : Text) (one other : Outcome)
    → ComesOutside task.ontology task.queries line one
    → ComesOutside task.ontology task.queries line other → one ≡ other
outside_once task apart line one other (inl p) (inl q) = p.1 ∙ sym q.1
outside_once task apart line one other (inl p) (inr (inl q)) = absurd (q.1 p.0)
outside_once task apart line one other (inl p) (inr (inr q)) = absurd (q.0 p.0)
outside_once task apart line one other (inr (inl p)) (inl q) = absurd (p.1 q.0)
outside_once task apart line one other (inr (inl p)) (inr (inl q)) =
    p.4
    ∙ (ap (λ (g : Goal). Goes (Begun g))
    (one_goal_told task.ontology task.queries apart.sound apart.apart p.0 q.0 p.2 q.2
    (sym p.3 ∙ q.3)) ∙ sym q.4)
outside_once task apart line one other (inr (inl p)) (inr (inr q)) = absurd (q.1 p.0 p.2 p.3)
outside_once task apart line one other (inr (inr p)) (inl q) = absurd (p.0 q.0)
outside_once task apart line one other (inr (inr p)) (inr (inl q)) = absurd (p.1 q.0 q.2 q.3)
outside_once task apart line one other (inr (inr p)) (inr (inr q)) = p.2 ∙ sym q.2

-- a step's line is no ending's
step_or_ending : (names : List Text) (step : ProofStep) (e : Ending)
    → step_text step ≡ ending_text names e → ⊥
step_or_ending names step (ending.Match elements) same =
    apart_at _ _ same 0 115 109 refl refl (λ letters. omega arith)
step_or_ending names step (ending.Places first second) same =
    apart_at _ _ same 0 115 97 refl refl (λ letters. omega arith)

module _ (task : Task) (apart : NamesApart task) (goal : Goal) (facts : List Fact)
    (steps : List ProofStep) (line : Text) (one other : Outcome) where
  abbrev Comes : Outcome → Type 0
  Comes outcome = ComesInSteps task.ontology goal facts steps line outcome

  steps_once : Comes one → Comes other → one ≡ other
  steps_once (inl p) (inl q) =
      p.2
      ∙ (ap (outcome_of_step goal facts steps)
      (one_step p.0 q.0 p.1.from_small p.1.inclusion_small q.1.from_small q.1.inclusion_small
      (sym p.1.tells ∙ q.1.tells)) ∙ sym q.2)
  steps_once (inl p) (inr (inl q)) =
      absurd (step_or_ending task.ontology.individuals p.0 q.0 (sym p.1.tells ∙ q.2))
  steps_once (inl p) (inr (inr q)) =
      absurd (q.0 p.0 p.1.from_small p.1.inclusion_small p.1.tells)
  steps_once (inr (inl p)) (inl q) =
      absurd (step_or_ending task.ontology.individuals q.0 p.0 (sym q.1.tells ∙ p.2))
  steps_once (inr (inl p)) (inr (inl q)) =
      p.3
      ∙ (ap (λ (e : Ending). Goes (Whole (whole_proof goal facts steps e)))
      (one_ending_told task.ontology apart.sound p.0 q.0 p.1 q.1 (sym p.2 ∙ q.2)) ∙ sym q.3)
  steps_once (inr (inl p)) (inr (inr q)) = absurd (q.1 p.0 p.1 p.2)
  steps_once (inr (inr p)) (inl q) =
      absurd (p.0 q.0 q.1.from_small q.1.inclusion_small q.1.tells)
  steps_once (inr (inr p)) (inr (inl q)) = absurd (p.1 q.0 q.1 q.2)
  steps_once (inr (inr p)) (inr (inr q)) = p.2 ∙ sym q.2

-- two answers to one question
same_answer : (P : Type 0) (one other : Bool) → (IsTrue one ↔ P) → (IsTrue other ↔ P)
    → one ≡ other
same_answer P true true p q = refl
same_answer P true false p q = let no_answer : false ≡ true = q.1 (p.0 refl) in sym no_answer
same_answer P false true p q = let no_answer : false ≡ true = p.1 (q.0 refl) in no_answer
same_answer P false false p q = refl

end_once : (task : Task) (proof : Proof) (line : Text) (one other : Outcome)
    → ComesAtEnd task.ontology task.queries proof line one
    → ComesAtEnd task.ontology task.queries proof line other → one ≡ other
end_once task proof line one other (inl p) (inl q) =
    p.3 ∙ (ap Answered (same_answer _ p.0 q.0 p.2 q.2) ∙ sym q.3)
end_once task proof line one other (inl p) (inr q) = absurd (q.0 p.1)
end_once task proof line one other (inr p) (inl q) = absurd (p.0 q.1)
end_once task proof line one other (inr p) (inr q) = p.1 ∙ sym q.1

pub comes_once : (task : Task) → NamesApart task → (stage : Stage) (line : StreamLine)
    (one other : Outcome) → ComesTo task stage line one → ComesTo task stage line other
    → one ≡ other
comes_once task apart stage too_long one other p q = p ∙ sym q
comes_once task apart Outside (text line) one other p q = outside_once task apart line one other p q
comes_once task apart (Begun goal) (text line) one other p q = p ∙ sym q
comes_once task apart (Given goal facts steps) (text line) one other p q =
    steps_once task apart goal facts steps line one other p q
comes_once task apart (Whole proof) (text line) one other p q =
    end_once task proof line one other p q

-- ---- lines

replies_once : (before : Standing) (line : ℕ) (outcome : Outcome) (one other : Text)
    (after later : Standing) → Replies before line outcome one after
    → Replies before line outcome other later → (one ≡ other) × (after ≡ later)
replies_once before line (Goes stage) one other after later p q = (p.0 ∙ sym q.0, p.1 ∙ sym q.1)
replies_once before line (Refused why) one other after later p q =
    (p.0 ∙ sym q.0, p.1 ∙ sym q.1)
replies_once before line (Answered verdict) one other after later p q =
    (p.0 ∙ sym q.0, p.1 ∙ sym q.1)

pub verifies_once : (task : Task) → NamesApart task → IsOneValued (verifies task)
verifies_once task apart before number line one other after later p q =
    replies_once before number q.0 one other after later
    (subst (λ (outcome : Outcome). Replies before number outcome one after)
    (comes_once task apart before.stage line p.0 q.0 p.1 q.1) p.2) q.2

pub verifying_once : (task : Task) → NamesApart task → HasOneText (verifying task)
verifying_once task apart = (verifies_once task apart, λ after one other p q. p ∙ sym q)
