-- The report of a verification.
use Rattle.std.specs.Prelude.{◌≡◌, ℕ, ◌+◌, Bool, true, false, []}
use Rattle.report_text.specs.Names.{Text}
use Rattle.report_text.specs.Lines.{refused_text}
use Rattle.stream_report.specs.Told.{Step, Manner}
use Rattle.verify_report.specs.declared.stage.Stage.{Stage}
use Rattle.verify_report.specs.declared.stage.Stage.TheVariants.{Outside}
use Rattle.verify_report.specs.declared.outcome.Outcome.{Outcome}
use Rattle.verify_report.specs.declared.outcome.Outcome.TheVariants.{Goes, Refused, Answered}
use Rattle.verify_report.specs.Lines.{verdict_text, end_text}
use Rattle.verify_report.specs.Outcome.{Task, ComesTo}

-- where a verification stands between lines: how much was read of a proof, how many proofs show
-- their goals, how many don't, and how many lines were refused
pub record Standing : Type 0 where
  pub stage : Stage
  pub yes : ℕ
  pub no : ℕ
  pub refused : ℕ

-- before the first line
abbrev pub start : Standing
start = record { stage = Outside; yes = 0; no = 0; refused = 0 }

-- a proof was read to its end
abbrev pub with_verdict : Bool → Standing → Standing
with_verdict true before = record before { stage = Outside; yes = before.yes + 1 }
with_verdict false before = record before { stage = Outside; no = before.no + 1 }

-- what is told of a line of this outcome. A line that is refused drops the proof, and of one that
-- ends it the verdict is told
abbrev pub Replies : Standing → ℕ → Outcome → Text → Standing → Type 0
Replies before line (Goes stage) told after =
    (told ≡ []) × (after ≡ record before { stage = stage })
Replies before line (Refused why) told after =
    (told ≡ refused_text line why)
    × (after ≡ record before { stage = Outside; refused = before.refused + 1 })
Replies before line (Answered verdict) told after =
    (told ≡ verdict_text line verdict) × (after ≡ with_verdict verdict before)

-- what is told of a line
abbrev pub verifies : Task → Step Standing
verifies task before number line told after =
    (outcome : Outcome) × ComesTo task before.stage line outcome
    × Replies before number outcome told after

-- and of all lines, with the counts last. Of a proof that the input's end cuts off nothing is told
abbrev pub verifying : Task → Manner Standing
verifying task = record {
  opening = [];
  step = verifies task;
  closes = λ after last. last ≡ end_text after.yes after.no after.refused;
}
