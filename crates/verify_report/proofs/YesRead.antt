-- Yes is told of the last line of a proof whose goal holds.
use Rattle.std.proofs.Common.{◌≡◌, ◌+◌, List, [], ◌∷◌, ◌++◌, length, sym, ap, ◌∙◌, subst}
use Rattle.std.proofs.Common.{inl, inr, codes, append_assoc}
use Rattle.std.specs.Prelude.{true}
use Rattle.edge_io.specs.Lines.{Item as StreamLine, text, too_long}
use Rattle.report_text.specs.declared.item.Cause.TheVariants as cause
use Rattle.run_proofs.specs.declared.proof.Proof.{Proof}
use Rattle.verify_report.specs.declared.stage.Stage.{Stage}
use Rattle.verify_report.specs.declared.stage.Stage.TheVariants.{Whole}
use Rattle.verify_report.specs.declared.outcome.Outcome.{Outcome}
use Rattle.verify_report.specs.declared.outcome.Outcome.TheVariants.{Refused, Answered}
use Rattle.verify_report.specs.Outcome.{Task, ComesTo}
use Rattle.verify_report.specs.Report.{verifies}
use Rattle.verify_report.specs.Certificates.{lines_before_end, WasRead, ReadProof}
use Rattle.verify_report.specs.Certificates.{EndWithProof}
use Rattle.verify_report.specs.Laws.{IsShown, YesIsRead}
use Rattle.verify_report.proofs.Verdicts.{yes_holds, answered_yes}
use Rattle.verify_report.proofs.Reading.{was_read}

-- the last line of a whole proof
last_line : (task : Task) (proof : Proof) (line : StreamLine) (outcome : Outcome)
    → ComesTo task (Whole proof) line outcome → outcome ≡ Answered true
    → line ≡ text (codes "end")
last_line task proof too_long outcome comes is =
    let no : Refused cause.TooLong ≡ Answered true = sym comes ∙ is in absurd (cc)
last_line task proof (text line) outcome (inl p) is = ap text p.1
last_line task proof (text line) outcome (inr p) is =
    let no : Refused cause.Malformed ≡ Answered true = sym p.1 ∙ is in absurd (cc)

with_end : (task : Task) (lines : List StreamLine) (line : StreamLine) (proof : Proof)
    → ReadProof task lines proof → line ≡ text (codes "end")
    → EndWithProof task (lines ++ line ∷ []) proof
with_end task lines line proof read is = record {
  earlier = read.earlier;
  snapshot = read.snapshot;
  gives = read.gives;
  split = ap (λ (l : StreamLine). lines ++ l ∷ []) is
      ∙ (ap (λ (ls : List StreamLine). ls ++ text (codes "end") ∷ []) read.split
      ∙ append_assoc read.earlier (lines_before_end task proof read.snapshot)
      (text (codes "end") ∷ []));
}

pub yes_is_read : YesIsRead
yes_is_read task lines line told verdict before after tells verifies is =
    let shown : IsShown task before =
    yes_holds task before after (1 + length lines) line verdict verifies is in
    let read : ReadProof task lines shown.proof =
    subst (WasRead task lines) shown.waits (was_read task [] lines 1 _ before told tt tells) in
    let comes : ComesTo task (Whole shown.proof) line verifies.0 =
    subst (λ (stage : Stage). ComesTo task stage line verifies.0) shown.waits verifies.1 in
    record {
      proof = shown.proof;
      read =
          with_end task lines line shown.proof read
          (last_line task shown.proof line verifies.0 comes
          (answered_yes task before after (1 + length lines) line verdict verifies is));
      holds = shown.holds;
    }
