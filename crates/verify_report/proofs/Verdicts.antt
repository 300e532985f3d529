-- What a verdict says.
use Rattle.std.proofs.Common.{◌≡◌, ℕ, List, [], ◌∷◌, ◌++◌, sym, ap, ◌∙◌, subst, refl, inl, inr}
use Rattle.std.proofs.Common.{arith, codes, decimal, append_assoc, cond, ltb, length}
use Rattle.std.specs.Prelude.{Bool, true, false, ◌↔◌, IsTrue}
use Rattle.std.proofs.lemmas.List.{append_cancel_left}
use Rattle.edge_io.specs.Lines.{Item as StreamLine, text, too_long}
use Rattle.forms.specs.declared.StreamForm.TheVariants as form
use Rattle.snapshot_reader.specs.Said.{Said, nothing, refused, names, says, said}
use Rattle.report_text.specs.Names.{Text}
use Rattle.report_text.specs.declared.item.Cause.TheVariants as cause
use Rattle.report_text.specs.Lines.{cause_text}
use Rattle.dl_syntax.specs.declared.facts.Fact.{Fact}
use Rattle.run_proofs.specs.declared.proof.Goal.{Goal}
use Rattle.run_proofs.specs.declared.proof.ProofStep.{ProofStep}
use Rattle.run_proofs.specs.declared.proof.Proof.{Proof}
use Rattle.run_proofs.specs.Shows.{Shows}
use Rattle.run_proofs.proofs.Showing.{shown_holds}
use Rattle.run_proofs.proofs.Spread.{apart_at}
use Rattle.verify_report.specs.declared.stage.Stage.{Stage}
use Rattle.verify_report.specs.declared.stage.Stage.TheVariants.{Outside, Begun, Given, Whole}
use Rattle.verify_report.specs.declared.outcome.Outcome.{Outcome}
use Rattle.verify_report.specs.declared.outcome.Outcome.TheVariants.{Goes, Refused, Answered}
use Rattle.verify_report.specs.Stages.{most_steps}
use Rattle.verify_report.specs.Lines.{verdict_text}
use Rattle.verify_report.specs.Outcome.{Task, ComesTo, ComesOutside, ComesInSteps}
use Rattle.verify_report.specs.Outcome.{outcome_of_facts}
use Rattle.verify_report.specs.Report.{Standing, Replies, verifies}
use Rattle.verify_report.specs.Laws.{YesHolds, NoShowsNot}

-- ---- the text of a verdict is told of nothing else

-- what stands behind the number
abbrev behind : Bool → Text
behind true = codes " yes\n"
behind false = codes " no\n"

verdict_is : (line : ℕ) (verdict : Bool)
    → verdict_text line verdict ≡ codes "line " ++ decimal line ++ behind verdict
verdict_is line true = refl
verdict_is line false = refl

-- it differs where the texts do
behind_number : (line : ℕ) (one other : Text)
    → codes "line " ++ decimal line ++ one ≡ codes "line " ++ decimal line ++ other → one ≡ other
behind_number line one other same =
    append_cancel_left (codes "line " ++ decimal line) one other same

no_text : (line : ℕ) (rest : Text) → codes "line " ++ decimal line ++ rest ≡ [] → ⊥
no_text line rest is = apart_at _ _ is 0 108 0 refl refl (λ letters. omega arith)

no_refusal : (verdict : Bool) (rest : Text) → behind verdict ≡ codes " refused " ++ rest → ⊥
no_refusal true rest is =
    apart_at (codes " yes\n") (codes " refused " ++ rest) is 1 121 114 refl refl
    (λ letters. omega arith)
no_refusal false rest is =
    apart_at (codes " no\n") (codes " refused " ++ rest) is 1 110 114 refl refl
    (λ letters. omega arith)

one_verdict : (one other : Bool) → behind one ≡ behind other → one ≡ other
one_verdict true true same = refl
one_verdict true false same =
    absurd (apart_at (codes " yes\n") (codes " no\n") same 1 121 110 refl refl
    (λ letters. omega arith))
one_verdict false true same =
    absurd (apart_at (codes " no\n") (codes " yes\n") same 1 110 121 refl refl
    (λ letters. omega arith))
one_verdict false false same = refl

told_verdict : (before after : Standing) (line : ℕ) (verdict : Bool) (outcome : Outcome)
    → Replies before line outcome (codes "line " ++ decimal line ++ behind verdict) after
    → outcome ≡ Answered verdict
told_verdict before after line verdict (Goes stage) replies =
    absurd (no_text line (behind verdict) replies.0)
told_verdict before after line verdict (Refused why) replies =
    absurd (no_refusal verdict (cause_text why ++ codes "\n")
    (behind_number line (behind verdict) (codes " refused " ++ (cause_text why ++ codes "\n"))
    (replies.0 ∙ simp append_assoc)))
told_verdict before after line verdict (Answered other) replies =
    ap Answered (sym (one_verdict verdict other
    (behind_number line (behind verdict) (behind other) (replies.0 ∙ verdict_is line other))))

-- ---- a verdict is told of a whole proof alone

-- the stage is that of a whole proof, of which this is the verdict
record Judges (task : Task) (stage : Stage) (verdict : Bool) : Type 0 where
  proof : Proof
  waits : stage ≡ Whole proof
  judges : IsTrue verdict ↔ Shows task.ontology task.queries proof

none_outside : (task : Task) (line : Text) (verdict : Bool) (outcome : Outcome)
    → ComesOutside task.ontology task.queries line outcome → outcome ≡ Answered verdict → ⊥
none_outside task line verdict outcome (inl p) is =
    let no : Goes Outside ≡ Answered verdict = sym p.1 ∙ is in cc
none_outside task line verdict outcome (inr (inl p)) is =
    let no : Goes (Begun p.0) ≡ Answered verdict = sym p.4 ∙ is in cc
none_outside task line verdict outcome (inr (inr p)) is = cc

none_of_facts : (goal : Goal) (what : Said) (verdict : Bool)
    → outcome_of_facts goal what ≡ Answered verdict → ⊥
none_of_facts goal nothing verdict is = cc
none_of_facts goal (refused why) verdict is = cc
none_of_facts goal (names name) verdict is = cc
none_of_facts goal (says facts) verdict is = cc

none_of_step : (next : Stage) (verdict few : Bool)
    → cond few (Goes next) (Refused cause.Malformed) ≡ Answered verdict → ⊥
none_of_step next verdict true is = cc
none_of_step next verdict false is = cc

none_in_steps : (task : Task) (goal : Goal) (facts : List Fact) (steps : List ProofStep)
    (line : Text) (verdict : Bool) (outcome : Outcome)
    → ComesInSteps task.ontology goal facts steps line outcome → outcome ≡ Answered verdict → ⊥
none_in_steps task goal facts steps line verdict outcome (inl p) is =
    none_of_step (Given goal facts (steps ++ p.0 ∷ [])) verdict (ltb (length steps) most_steps)
    (sym p.2 ∙ is)
none_in_steps task goal facts steps line verdict outcome (inr (inl p)) is = cc
none_in_steps task goal facts steps line verdict outcome (inr (inr p)) is = cc

judged : (task : Task) (stage : Stage) (line : StreamLine) (verdict : Bool) (outcome : Outcome)
    → ComesTo task stage line outcome → outcome ≡ Answered verdict → Judges task stage verdict
judged task stage too_long verdict outcome comes is = absurd (cc)
judged task Outside (text line) verdict outcome comes is =
    absurd (none_outside task line verdict outcome comes is)
judged task (Begun goal) (text line) verdict outcome comes is =
    absurd (none_of_facts goal (said task.ontology form.Text line) verdict (sym comes ∙ is))
judged task (Given goal facts steps) (text line) verdict outcome comes is =
    absurd (none_in_steps task goal facts steps line verdict outcome comes is)
judged task (Whole proof) (text line) verdict outcome (inl p) is =
    let same : p.0 ≡ verdict = (let both : Answered p.0 ≡ Answered verdict = sym p.3 ∙ is in cc) in
    record {
      proof = proof;
      waits = refl;
      judges = subst (λ (b : Bool). IsTrue b ↔ Shows task.ontology task.queries proof) same p.2;
    }
judged task (Whole proof) (text line) verdict outcome (inr p) is = absurd (cc)

answered : (task : Task) (before after : Standing) (number : ℕ) (line : StreamLine) (told : Text)
    (verdict : Bool) (verifies : verifies task before number line told after)
    → told ≡ verdict_text number verdict → verifies.0 ≡ Answered verdict
answered task before after number line told verdict verifies is =
    told_verdict before after number verdict verifies.0
    (subst (λ (t : Text). Replies before number verifies.0 t after)
    (is ∙ verdict_is number verdict) verifies.2)

pub answered_yes : (task : Task) (before after : Standing) (number : ℕ) (line : StreamLine)
    (told : Text) (verifies : verifies task before number line told after)
    → told ≡ verdict_text number true → verifies.0 ≡ Answered true
answered_yes task before after number line told verifies is =
    answered task before after number line told true verifies is

told : (task : Task) (before after : Standing) (number : ℕ) (line : StreamLine) (words : Text)
    (verdict : Bool) → verifies task before number line words after
    → words ≡ verdict_text number verdict → Judges task before.stage verdict
told task before after number line words verdict verifies is =
    judged task before.stage line verdict verifies.0 verifies.1
    (answered task before after number line words verdict verifies is)

pub yes_holds : YesHolds
yes_holds task before after number line words verifies is =
    let j : Judges task before.stage true = told task before after number line words true verifies
    is
    in
    let shows : Shows task.ontology task.queries j.proof = j.judges.0 refl in
    record {
      proof = j.proof;
      waits = j.waits;
      shows = shows;
      holds = shown_holds task.ontology task.queries j.proof shows;
    }

pub no_shows_not : NoShowsNot
no_shows_not task before after number line words verifies is =
    let j : Judges task before.stage false =
    told task before after number line words false verifies is in
    record {
      proof = j.proof;
      waits = j.waits;
      shows_not = λ shows. (let no : false ≡ true = j.judges.1 shows in absurd (cc));
    }
