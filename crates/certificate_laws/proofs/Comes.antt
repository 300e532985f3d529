-- What texts come to where they are verified.
use Rattle.std.proofs.Common.{◌≡◌, ℕ, suc, ◌+◌, List, [], ◌∷◌, ◌++◌, length, refl, sym, ap, ◌∙◌}
use Rattle.std.proofs.Common.{subst}
use Rattle.std.proofs.Common.{arith, append_assoc, append-nil, length-append}
use Rattle.std.specs.Prelude.{true}
use Rattle.std.specs.List.{All}
use Rattle.std.proofs.lemmas.Grind.{flat_map-append}
use Rattle.std.proofs.lemmas.List.Elements.{All-nil, All-cons, All-head, All-tail}
use Rattle.edge_io.specs.Lines.{Item as StreamLine, text, items}
use Rattle.stream_report.specs.Told.{Told}
use Rattle.stream_report.proofs.ToldLaws.{told_joined}
use Rattle.run_proofs.specs.declared.proof.Proof.{Proof}
use Rattle.run_proofs.specs.Texts.{Text, proof_text, snapshot_text}
use Rattle.verify_report.specs.declared.stage.Stage.TheVariants.{Outside}
use Rattle.verify_report.specs.declared.outcome.Outcome.TheVariants.{Goes}
use Rattle.verify_report.specs.declared.stage.Stage.{Stage}
use Rattle.verify_report.specs.Lines.{verdict_text}
use Rattle.verify_report.specs.Outcome.{Task, ComesTo}
use Rattle.verify_report.specs.Report.{Standing, verifies, with_verdict}
use Rattle.verify_report.specs.Certificates.{lines_of}
use Rattle.verify_report.specs.Laws.{NamesApart}
use Rattle.certificate_laws.specs.Certificates.{IsCertificate, last_line, texts_of, yes_text}
use Rattle.certificate_laws.proofs.TextLines.{IsLine, ended, all_items}
use Rattle.certificate_laws.proofs.ProofTexts.{proof_items, proof_told}

module _ (task : Task) where
  -- yes is told so often of these lines, and nothing else
  pub record Verified (given : List StreamLine) (number : ℕ) (before : Standing) (count : ℕ)
      : Type 0 where
    pub numbers : List ℕ
    pub after : Standing
    pub counted : length numbers ≡ count
    pub tells : Told (verifies task) given number before (yes_text numbers) after
    pub stage : after.stage ≡ Outside
    pub yes : after.yes ≡ before.yes + count
    pub no : after.no ≡ before.no
    pub refused : after.refused ≡ before.refused

  -- the text is lines of which yes is told so often, wherever they stand
  pub record Comes (words : Text) (count : ℕ) : Type 0 where
    pub given : List StreamLine
    pub are : (rest : Text) → items (words ++ rest) ≡ given ++ items rest
    pub verified : (number : ℕ) (before : Standing) → before.stage ≡ Outside
        → Verified given number before count

  pub comes_nothing : Comes [] 0
  comes_nothing = record {
    given = [];
    are = λ rest. refl;
    verified = λ number before starts. record {
      numbers = [];
      after = before;
      counted = refl;
      tells = (refl, refl);
      stage = starts;
      yes = omega arith;
      no = refl;
      refused = refl;
    };
  }

  two_verified : (given more : List StreamLine) (number m n : ℕ) (before : Standing)
      (first : Verified given number before m)
      → Verified more (number + length given) first.after n
      → Verified (given ++ more) number before (m + n)
  two_verified given more number m n before first second = record {
    numbers = first.numbers ++ second.numbers;
    after = second.after;
    counted = omega (
      arith,
      length-append first.numbers second.numbers,
      first.counted,
      second.counted,
    );
    tells =
        subst (λ (t : Text). Told (verifies task) (given ++ more) number before t second.after)
        (sym (flat_map-append (λ (k : ℕ). verdict_text k true) first.numbers second.numbers))
        (told_joined (verifies task) given more number before first.after second.after
        (yes_text first.numbers) (yes_text second.numbers) first.tells second.tells);
    stage = second.stage;
    yes = omega (arith, first.yes, second.yes);
    no = second.no ∙ first.no;
    refused = second.refused ∙ first.refused;
  }

  pub comes_both : (words more : Text) (m n : ℕ) → Comes words m → Comes more n
      → Comes (words ++ more) (m + n)
  comes_both words more m n one other = record {
    given = one.given ++ other.given;
    are = λ rest. ap items (append_assoc words more rest)
        ∙ (one.are (more ++ rest)
        ∙ (ap (λ (ls : List StreamLine). one.given ++ ls) (other.are rest)
        ∙ sym (append_assoc one.given other.given (items rest))));
    verified = λ number before starts.
        let first : Verified one.given number before m = one.verified number before starts in
        two_verified one.given other.given number m n before first
        (other.verified (number + length one.given) first.after first.stage);
  }

  -- a line that tells something else than a proof
  pub comes_passed : (line : Text) → IsLine line
      → ComesTo task Outside (text line) (Goes Outside) → Comes (ended line) 0
  comes_passed line is passes = record {
    given = text line ∷ [];
    are = λ rest. ap (λ (t : Text). items (t ++ rest)) (sym (append-nil (ended line)))
        ∙ all_items (line ∷ []) rest (one line is);
    verified = λ number before starts. record {
      numbers = [];
      after = record before { stage = Outside };
      counted = refl;
      tells = (
        [],
        [],
        record before { stage = Outside },
        (
          Goes Outside,
          subst (λ (stage : Stage). ComesTo task stage (text line) (Goes Outside)) (sym starts)
              passes,
          (refl, refl),
        ),
        (refl, refl),
        refl,
      );
      stage = refl;
      yes = omega arith;
      no = refl;
      refused = refl;
    };
  }
    where
      one : (l : Text) → IsLine l → All IsLine (l ∷ [])
      one l fits = All-cons IsLine l [] fits (All-nil IsLine)

  module _ (apart : NamesApart task) where
    pub comes_proof : (proof : Proof) → IsCertificate task proof
        → Comes (proof_text task.ontology task.queries proof) 1
    comes_proof proof is = record {
      given = lines_of task proof (snapshot_text task.ontology proof.facts);
      are = proof_items task apart proof is;
      verified = λ number before starts. record {
        numbers = last_line number proof ∷ [];
        after = with_verdict true before;
        counted = refl;
        tells =
            subst (λ (t : Text). Told (verifies task)
            (lines_of task proof (snapshot_text task.ontology proof.facts)) number before t
            (with_verdict true before))
            (sym (append-nil (verdict_text (last_line number proof) true)))
            (proof_told task apart proof is before number starts);
        stage = refl;
        yes = refl;
        no = refl;
        refused = refl;
      };
    }

    pub comes_proofs : (proofs : List Proof) → All (IsCertificate task) proofs
        → Comes (texts_of task proofs) (length proofs)
    comes_proofs [] are = comes_nothing
    comes_proofs (proof ∷ proofs) are =
        subst (Comes (texts_of task (proof ∷ proofs))) (same (length proofs))
        (comes_both (proof_text task.ontology task.queries proof) (texts_of task proofs) 1
        (length proofs) (comes_proof proof (All-head (IsCertificate task) proof proofs are))
        (comes_proofs proofs (All-tail (IsCertificate task) proof proofs are)))
      where
        same : (n : ℕ) → 1 + n ≡ suc n
        same n = omega arith
