-- How a run ends, by how its parts ended.
use Rattle.std.proofs.Common.{◌≡◌, ℕ, List, Some, Result, Ok, Err, inl, inr, ◌∙◌, subst}
use Rattle.edge_io.specs.declared.outside.Failed.{Failed}
use Rattle.edge_io.specs.Causes.{HasCause}
use Rattle.edge_io.specs.Known.{IsFront}
use Rattle.edge_io.proofs.KnownLemmas.{IsFront-refl}
use Rattle.command_words.specs.declared.request.FilesCommand.{FilesCommand}
use Rattle.command_words.specs.declared.request.FilesCommand.TheVariants.{Rewrite, Contain, Audit}
use Rattle.command_words.specs.declared.request.FilesCommand.TheVariants.{Explain, Verify, Streams}
use Rattle.command_words.specs.Meanings.{Meaning, meaning_of_words}
use Rattle.command_words.specs.Meanings as meaning
use Rattle.stream_report.specs.declared.ending.Ending.{Ending}
use Rattle.stream_report.specs.declared.ending.Ending.TheVariants.{Done, Usage, Refused, ReadFault}
use Rattle.stream_report.specs.declared.ending.Ending.TheVariants.{WriteFault, Memory, StreamLimit}
use Rattle.stream_report.specs.Outside.{SinkTold, Outside}
use Rattle.edge_io.specs.Writing.{Writes}
use Rattle.job_sources.specs.declared.refusal.Refusal.{Refusal}
use Rattle.job_sources.specs.FileNames.{FileNames}
use Rattle.monitor_run.specs.declared.jobs.Job.TheVariants.{OnFiles}
use Rattle.monitor_run.specs.Jobs.{asked_by}
use Rattle.monitor_run.specs.Running.{JobEnds, AskedEnds, RunEnds, Says}
use Rattle.monitor_run.proofs.FilesJobs.{reading_means, writing_means}

-- no command ends as words that mean nothing
never_usage_on : (command : FilesCommand) (names : FileNames) (before now : Outside)
    → ¬ JobEnds (OnFiles command) names Usage before now
never_usage_on Rewrite names before now =
    writing_means _ names _ before now
never_usage_on Contain names before now =
    writing_means _ names _ before now
never_usage_on Audit names before now =
    reading_means _ names _ _ before now
never_usage_on Explain names before now =
    reading_means _ names _ _ before now
never_usage_on Verify names before now =
    reading_means _ names _ _ before now
never_usage_on Streams names before now =
    reading_means _ names _ _ before now

pub never_usage : (means : Meaning) (before now : Outside)
    → ¬ AskedEnds (asked_by means) Usage before now
never_usage (meaning.watch w) before now ends = reading_means _ _ _ _ before now ends
never_usage (meaning.on_files command o q owl) before now ends =
    never_usage_on command (record { ontology = o; queries = q; owl = owl }) before now ends
never_usage (meaning.drill seed count) before now (stay, inl (inl unread, untouched)) = unread
never_usage (meaning.drill seed count) before now
    (stay, inl (inr (setting, say, refused), untouched)) = refused
never_usage (meaning.drill seed count) before now
    (stay, inr (setting, opens, (input, (text, is, written), fault))) = written.is

-- what the words mean was done
pub performed : (ending : Ending Refusal) (words : List (List ℕ)) (means : Meaning)
    (before now : Outside) → meaning_of_words words ≡ Some means
    → AskedEnds (asked_by means) ending before now → RunEnds ending words before now
performed Usage words means before now is ends = absurd (never_usage means before now ends)
performed Memory words means before now is ends =
    inr (record { means = means; words_mean = is; ends = ends })
performed Done words means before now is ends =
    record { means = means; words_mean = is; ends = ends }
performed (Refused refusal) words means before now is ends =
    record { means = means; words_mean = is; ends = ends }
performed ReadFault words means before now is ends =
    record { means = means; words_mean = is; ends = ends }
performed WriteFault words means before now is ends =
    record { means = means; words_mean = is; ends = ends }
performed StreamLimit words means before now is ends =
    record { means = means; words_mean = is; ends = ends }

-- what was said on the error sink
pub said : (before now : SinkTold) (bytes line : List ℕ) (result : Result (Unit {0}) Failed)
    → bytes ≡ line → Writes before.got now.got bytes result
    → HasCause before.faults now.faults result → Says before now line
said before now bytes line (Ok u) same writes cause = record {
  wrote = writes.wrote;
  gains = writes.gains;
  front = subst (λ l. IsFront writes.wrote l) (writes.whole ∙ same) (IsFront-refl writes.wrote);
  whole = inl (writes.whole ∙ same);
}
said before now bytes line (Err e) same writes cause = record {
  wrote = writes.wrote;
  gains = writes.gains;
  front = subst (λ l. IsFront writes.wrote l) same writes.failed.0;
  whole = inr cause.failed;
}
