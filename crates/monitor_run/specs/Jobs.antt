-- What the words ask for: a job on files, or a drill.
use Rattle.std.specs.Prelude.{ℕ}
use Rattle.command_words.specs.declared.request.FilesCommand.{FilesCommand}
use Rattle.command_words.specs.Meanings.{Meaning, Watching}
use Rattle.command_words.specs.Meanings as meaning
use Rattle.monitor_run.specs.declared.jobs.Job.{Job}
use Rattle.monitor_run.specs.declared.jobs.Job.TheVariants.{Watch, OnFiles}
use Rattle.job_sources.specs.FileNames.{FileNames}
use Rattle.watch_report.specs.declared.options.Options.{Options}

-- the options that the words of a watch mean
abbrev pub options_of : Watching → Options
options_of w = record { form = w.form; report = w.report; sizes = w.sizes }

-- a command on the files of these names
abbrev pub command_on : FilesCommand → FileNames → Meaning
command_on command names = meaning.on_files command names.ontology names.queries names.owl

-- a job on the files of these names, or a drill of this seed and so many snapshots
pub data Asked : Type 0 where
  on_files : FileNames → Job → Asked
  drill : ℕ → ℕ → Asked

-- what is asked for by the words that mean this
abbrev pub asked_by : Meaning → Asked
asked_by (meaning.watch w) = on_files (record {
  ontology = w.ontology;
  queries =
      w.queries;
  owl = w.owl;
}) (Watch (options_of w))
asked_by (meaning.on_files command ontology queries owl) =
    on_files (record { ontology = ontology; queries = queries; owl = owl }) (OnFiles command)
asked_by (meaning.drill seed count) = drill seed count
