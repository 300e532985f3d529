-- What is told of a line by its outcome.
use Rattle.std.proofs.Common.{◌≡◌, ℕ, ◌+◌, ◌≤◌, List, [], ◌++◌, length, refl, sym, ap, ◌∙◌}
use Rattle.std.proofs.Common.{append-nil, append_assoc, add-one, subst, inl, inr}
use Rattle.std.specs.Prelude.{Option, Some}
use Rattle.std.specs.List.{All}
use Rattle.std.proofs.lemmas.List.Elements.{All-weaker}
use Rattle.dl_syntax.specs.declared.facts.Element.TheVariants.{Ind, Null}
use Rattle.dl_syntax.specs.declared.facts.Fact.{Fact}
use Rattle.dl_syntax.specs.declared.facts.Fact.TheVariants as fact
use Rattle.dl_syntax.specs.declared.ontology.Clash.{Clash as ClashValue}
use Rattle.dl_syntax.specs.Declaring.{IsDeclaredFact, IsDeclaredInclusion}
use Rattle.dl_syntax.specs.Facts.{HasNoNull}
use Rattle.dl_syntax.specs.Ontology.{Declared}
use Rattle.tcq_syntax.specs.Tcq.{Tcq}
use Rattle.snapshot_reader.specs.Laws.{IsDeclared}
use Rattle.report_text.specs.Names.{Text}
use Rattle.report_text.specs.declared.item.Cause.{Cause}
use Rattle.report_text.specs.declared.item.Cause.TheVariants.{Contradiction}
use Rattle.report_text.specs.Lines.{refused_text}
use Rattle.consistency.specs.Least.{IsLeastClash, IsConsistentUnder}
use Rattle.run_proofs.specs.declared.proof.Goal.TheVariants.{Clash}
use Rattle.run_proofs.specs.Shows.{clash_of, Holds, IsMetClash}
use Rattle.run_proofs.specs.Texts.{proof_text, snapshot_text}
use Rattle.run_proofs.specs.Writable.{IsWritableFact}
use Rattle.proof_search.specs.Explaining.{HaveSame}
use Rattle.explain_report.specs.declared.outcome.Outcome.TheVariants.{Skipped, Refused, Says}
use Rattle.explain_report.specs.Answers.{Task, IsAnswer, TellsMore, TellsProof, proofs_text}
use Rattle.explain_report.specs.Report.{Counts, accepted_text}
use Rattle.explain_report.specs.Report.{TellsReply, TellsMoreAnswers, TellsMoreContradiction}
use Rattle.explain_report.specs.Source.{IsGiven}

-- ---- what a snapshot is

fact_known : (o : Declared) (f : Fact) → IsDeclared o f
    → IsDeclaredFact (length o.concepts) (length o.roles) f × HasNoNull f × IsWritableFact o f
fact_known o (fact.Concept c (Ind i)) is = (is.0, tt, is)
fact_known o (fact.Concept c (Null n)) is = absurd is.1
fact_known o (fact.Role p (Ind i) (Ind j)) is = (is.0, (tt, tt), is)
fact_known o (fact.Role p (Ind i) (Null n)) is = absurd is.2
fact_known o (fact.Role p (Null n) e) is = absurd is.1

pub facts_writable : (o : Declared) (snapshot : List Fact) → All (IsDeclared o) snapshot
    → All (IsWritableFact o) snapshot
facts_writable o snapshot declared =
    All-weaker (IsDeclared o) (IsWritableFact o) (λ f is. (fact_known o f is).2) snapshot declared

pub is_given : (o : Declared) (snapshot index : List Fact) (line : Text)
    → All (IsDeclaredInclusion (length o.concepts) (length o.roles)) o.inclusions
    → All (IsDeclared o) snapshot → length snapshot ≤ 65536 → HaveSame index snapshot
    → line ≡ snapshot_text o snapshot → IsGiven o snapshot index line
is_given o snapshot index line inclusions declared few same written = record {
  over = record {
    inclusions_declared = inclusions;
    facts_declared = All-weaker (IsDeclared o)
        (IsDeclaredFact (length o.concepts) (length o.roles)) (λ f is. (fact_known o f is).0)
        snapshot declared;
    without_nulls = All-weaker (IsDeclared o) HasNoNull (λ f is. (fact_known o f is).1) snapshot
        declared;
  };
  writable = facts_writable o snapshot declared;
  few = few;
  same = same;
  written = written;
}

-- the least clash is shown by some run
pub least_holds : (o : Declared) (queries : List Tcq) (snapshot : List Fact) (number : ℕ)
    → IsLeastClash o snapshot number → Holds o queries snapshot (Clash number)
least_holds o queries snapshot number least =
    let at : clash_of o.clashes number ≡ Some least.clash =
    ap (clash_of o.clashes) (least.counted ∙ add-one least.place) ∙ least.listed in
    subst (λ (m : Option ClashValue). IsMetClash o m snapshot) (sym at) least.met

-- ---- what is told of a snapshot

pub answers_told : (task : Task) (snapshot : List Fact) (line number : ℕ) (old between new : Text)
    → IsConsistentUnder task.ontology snapshot → between ≡ old ++ accepted_text line number
    → TellsMore IsAnswer task snapshot between new
    → TellsMoreAnswers task snapshot line number old new
answers_told task snapshot line number old between new consistent first more = record {
  told = accepted_text line number ++ proofs_text task more.proofs;
  tells = record {
    consistent = consistent;
    goals = more.goals;
    are = more.are;
    proofs = more.proofs;
    prove = more.prove;
    is = refl;
  };
  gains = more.gains ∙ ap (λ (t : Text). t ++ proofs_text task more.proofs) first
      ∙ append_assoc old (accepted_text line number) (proofs_text task more.proofs);
}

pub contradiction_told : (task : Task) (snapshot : List Fact) (line number : ℕ)
    (old between new : Text) → IsLeastClash task.ontology snapshot number
    → between ≡ old ++ refused_text line (Contradiction number)
    → TellsProof task snapshot (Clash number) between new
    → TellsMoreContradiction task snapshot line old new
contradiction_told task snapshot line number old between new least first one =
    record {
      told = refused_text line (Contradiction number)
          ++ proof_text task.ontology task.queries one.proof;
      tells = record {
        number = number;
        least = least;
        proof = one.proof;
        proves = one.proves;
        is = refl;
      };
      gains = one.gains
          ∙ ap (λ (t : Text). t ++ proof_text task.ontology task.queries one.proof) first
          ∙ append_assoc old (refused_text line (Contradiction number))
          (proof_text task.ontology task.queries one.proof);
    }

-- ---- replies

pub skips : (task : Task) (counts : Counts) (line : ℕ) (out : Text)
    → TellsReply task counts counts line Skipped out out
skips task counts line out =
    record { told = []; replies = (refl, refl); gains = sym (append-nil out) }

pub refuses : (task : Task) (before after : Counts) (line : ℕ) (why : Cause) (old new : Text)
    → after ≡ record before { refused = before.refused + 1 }
    → new ≡ old ++ refused_text line why
    → TellsReply task before after line (Refused why) old new
refuses task before after line why old new is gains =
    record { told = refused_text line why; replies = (refl, is); gains = gains }

pub accepts : (task : Task) (before after : Counts) (line : ℕ) (snapshot : List Fact)
    (old new : Text) → after ≡ record before { accepted = before.accepted + 1 }
    → TellsMoreAnswers task snapshot line (before.accepted + 1) old new
    → TellsReply task before after line (Says snapshot) old new
accepts task before after line snapshot old new is more =
    record { told = more.told; replies = inl (more.tells, is); gains = more.gains }

pub contradicts : (task : Task) (before after : Counts) (line : ℕ) (snapshot : List Fact)
    (old new : Text) → after ≡ record before { refused = before.refused + 1 }
    → TellsMoreContradiction task snapshot line old new
    → TellsReply task before after line (Says snapshot) old new
contradicts task before after line snapshot old new is more =
    record { told = more.told; replies = inr (more.tells, is); gains = more.gains }
