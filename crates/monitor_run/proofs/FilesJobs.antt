-- How jobs on files can't end, and what they leave, whatever they do with what the files say.
use Rattle.std.proofs.Common.{◌≡◌, ℕ, List, inl, inr}
use Rattle.monitor_core.specs.Setting.{Setting}
use Rattle.stream_report.specs.declared.ending.Ending.{Ending}
use Rattle.stream_report.specs.declared.ending.Ending.TheVariants.{Usage, Refused}
use Rattle.stream_report.specs.Ends.{StreamEnds, TextEnds}
use Rattle.stream_report.specs.Outside.{Ports, Outside}
use Rattle.stream_report.specs.Told.{Manner}
use Rattle.job_sources.specs.declared.refusal.Refusal.{Refusal}
use Rattle.job_sources.specs.Ends.{FilesEnd, FilesStay}
use Rattle.job_sources.specs.FileNames.{FileNames}

-- the files, the input and the output are as before
abbrev pub IsLeft : Outside → Outside → Type 0
IsLeft before now = (now.files ≡ before.files) × (now.ports.input ≡ before.ports.input)
    × (now.ports.out ≡ before.ports.out)

-- a job on files that goes on so by what they say ended so
abbrev pub JobOnFiles : (Setting → Refusal → Type 0) → FileNames
    → (Setting → Ending Refusal → Ports → Ports → Type 0) → Outside → Outside → Ending Refusal
    → Type 0
JobOnFiles own names ends before now ending = FilesStay ending before.files now.files
    × FilesEnd own names ends ending before now

-- ---- one that reads a stream

module _ {State : Type 0} (own : Setting → Refusal → Type 0) (names : FileNames)
    (manner : Setting → Manner State) (first : State) (before now : Outside) where
  abbrev pub Reads : Ending Refusal → Type 0
  Reads ending = JobOnFiles own names (λ setting. StreamEnds (manner setting) first) before now
      ending

  -- doesn't end as words that mean nothing
  pub reading_means : ¬ Reads Usage
  reading_means (stay, inl (inl unread, untouched)) = unread
  reading_means (stay, inl (inr (setting, say, refused), untouched)) = refused
  reading_means (stay, inr (setting, opens, (run, fault))) = run.writes

  -- and leaves all as it was where its sources are refused
  pub refused_reading : (refusal : Refusal) → Reads (Refused refusal) → IsLeft before now
  refused_reading refusal (stay, inl (fails, untouched)) = (stay, untouched.input, untouched.out)
  refused_reading refusal (stay, inr (setting, opens, (run, fault))) = absurd run.writes

-- ---- one that writes a text

module _ (own : Setting → Refusal → Type 0) (names : FileNames)
    (is_text : Setting → List ℕ → Type 0) (before now : Outside) where
  abbrev pub Writes : Ending Refusal → Type 0
  Writes ending = JobOnFiles own names (λ setting. TextEnds (is_text setting)) before now ending

  pub writing_means : ¬ Writes Usage
  writing_means (stay, inl (inl unread, untouched)) = unread
  writing_means (stay, inl (inr (setting, say, refused), untouched)) = refused
  writing_means (stay, inr (setting, opens, (input, (text, is, written), fault))) = written.is

  pub refused_writing : (refusal : Refusal) → Writes (Refused refusal) → IsLeft before now
  refused_writing refusal (stay, inl (fails, untouched)) = (stay, untouched.input, untouched.out)
  refused_writing refusal
      (stay, inr (setting, opens, (input, (text, is, written), fault))) = absurd written.is
