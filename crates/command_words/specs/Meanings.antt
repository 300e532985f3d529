-- What the words of the command line mean.
use Rattle.std.specs.Prelude.{◌==◌, ◌≡◌, ◌≤◌, ℕ, Bool, true, false, not, List, [], ◌∷◌, Option}
use Rattle.std.specs.Prelude.{Some, None, codes, if◌then◌else◌, is_some, option_and_then}
use Rattle.std.specs.Prelude.{option_map, unwrap_or, MatchResult, Result}
use Rattle.std.specs.Str.{bytes_eq}
use Rattle.clap.specs.Words.{Row, Text, first_of}
use Rattle.clap.specs.Walk.{is_empty}
use Rattle.command_words.specs.declared.names.CommandName.{CommandName}
use Rattle.command_words.specs.declared.names.CommandName.TheVariants as command
use Rattle.forms.specs.declared.StreamForm.{StreamForm}
use Rattle.forms.specs.declared.StreamForm.TheVariants as stream
use Rattle.forms.specs.declared.ReportForm.{ReportForm}
use Rattle.forms.specs.declared.LineForm.TheVariants as line
use Rattle.forms.specs.declared.ReportForm.TheVariants as report
use Rattle.command_words.specs.declared.request.FilesCommand.{FilesCommand}
use Rattle.command_words.specs.declared.request.Watch.{Watch}
use Rattle.command_words.specs.declared.request.Request.{Request}
use Rattle.command_words.specs.declared.request.Request.TheVariants as request
use Rattle.command_words.specs.declared.request.WordsFault.{WordsFault}
use Rattle.command_words.specs.declared.request.WordsFault.TheVariants.{Usage, Memory}
use Rattle.command_words.specs.Numbers.{number_of}
use Rattle.command_words.specs.Commands.{are_taken, command_of, faults_in, rows_in}

-- ---- what words ask for

-- a watch: the names of its files, whether the ontology is an OWL 2 document, the form of its
-- stream, the form of its report, and whether the report tells the kept sizes
pub record Watching : Type 0 where
  pub ontology : Text
  pub queries : Text
  pub owl : Bool
  pub form : StreamForm
  pub report : ReportForm
  pub sizes : Bool

-- a watch, a command on an ontology and queries of these names, with whether the ontology is an
-- OWL 2 document, or a drill of this seed and so many snapshots
pub data Meaning : Type 0 where
  watch : Watching → Meaning
  on_files : FilesCommand → Text → Text → Bool → Meaning
  drill : ℕ → ℕ → Meaning

-- the seed of a drill is at most 2,147,483,647, and it has at most 100,000 snapshots
abbrev pub IsWithinLimits : Meaning → Type 0
IsWithinLimits (watch w) = Unit {0}
IsWithinLimits (on_files command ontology queries owl) = Unit {0}
IsWithinLimits (drill seed count) = (seed ≤ 2147483647) × (count ≤ 100000)

-- ---- what each value means

-- the word may name a file: it isn't empty and doesn't begin with `-` (45)
abbrev pub is_file : Text → Bool
is_file [] = false
is_file (x ∷ xs) = not (x == 45)

-- the file that the word names
abbrev pub file_of : Text → Option Text
file_of word = if is_file word then Some word else None

-- the form of a stream that the word names
abbrev pub stream_form_of : Text → Option StreamForm
stream_form_of word = if bytes_eq word (codes "text") then Some stream.Text
    else (if bytes_eq word (codes "json") then Some stream.Json else None)

-- the form of a report that the word names
abbrev pub report_form_of : Text → Option ReportForm
report_form_of word = if bytes_eq word (codes "text") then Some (report.Lines line.Text)
    else (if bytes_eq word (codes "json") then Some report.Objects
    else (if bytes_eq word (codes "csv") then Some (report.Lines line.Csv) else None))

-- ---- what the arguments mean that stand in the words

-- the file that an argument names
unfoldable pub file_in : Text → List Row → Option Text
file_in id rows = option_and_then file_of (first_of id rows)

-- the number that an argument says
unfoldable pub number_in : ℕ → Text → List Row → Option ℕ
number_in limit id rows = option_and_then (number_of limit) (first_of id rows)

-- the form of the stream, which is text where no word says it
unfoldable pub stream_form_in : List Row → Option StreamForm
stream_form_in rows = stream_form_of (unwrap_or (first_of (codes "form") rows) (codes "text"))

-- the form of the report, which is text where no word says it
unfoldable pub report_form_in : List Row → Option ReportForm
report_form_in rows = report_form_of (unwrap_or (first_of (codes "report") rows) (codes "text"))

-- whether a flag is there
unfoldable pub flag_in : Text → List Row → Bool
flag_in id rows = bytes_eq (unwrap_or (first_of id rows) (codes "false")) (codes "true")

-- what the arguments of a watch mean
abbrev pub watch_in : List Row → Option Watching
watch_in rows =
    option_and_then (λ ontology. option_and_then (λ queries.
    option_and_then (λ form. option_map (λ report. record {
      ontology = ontology;
      queries = queries;
      owl = flag_in (codes "owl") rows;
      form = form;
      report = report;
      sizes = flag_in (codes "sizes") rows;
    }) (report_form_in rows)) (stream_form_in rows))
    (file_in (codes "queries") rows)) (file_in (codes "ontology") rows)

-- what the arguments of a command on files mean
abbrev pub on_files_in : FilesCommand → List Row → Option Meaning
on_files_in command rows =
    option_and_then (λ ontology. option_map (λ queries.
    on_files command ontology queries (flag_in (codes "owl") rows))
    (file_in (codes "queries") rows)) (file_in (codes "ontology") rows)

-- what the arguments of a drill mean
abbrev pub drill_in : List Row → Option Meaning
drill_in rows = option_and_then (λ seed. option_map (drill seed)
    (number_in 100000 (codes "count") rows)) (number_in 2147483647 (codes "seed") rows)

-- what the arguments of a command mean, where each value has its form
unfoldable pub meaning_in : CommandName → List Row → Option Meaning
meaning_in command.Watch rows = option_map watch (watch_in rows)
meaning_in (command.OnFiles command) rows = on_files_in command rows
meaning_in command.Drill rows = drill_in rows

-- what the words mean by the arguments of a command
unfoldable pub meaning_by : CommandName → List Text → Option Meaning
meaning_by command words =
    if is_empty (faults_in command words) then meaning_in command (rows_in command words) else None

-- what the words mean, where they are words of a command
unfoldable pub meaning_of_words : List Text → Option Meaning
meaning_of_words words = option_and_then (λ command. meaning_by command words) (command_of words)

-- ---- the answer

-- what a watch asks for
abbrev pub watching_of : Watch → Watching
watching_of w = record {
  ontology = w.ontology.now;
  queries = w.queries.now;
  owl = w.owl;
  form = w.form;
  report = w.report;
  sizes = w.sizes;
}

-- what a request asks for
abbrev pub meaning_of : Request → Meaning
meaning_of (request.Watch w) = watch (watching_of w)
meaning_of (request.OnFiles f) = on_files f.command f.ontology.now f.queries.now f.owl
meaning_of (request.Drill seed count) = drill seed count

-- a refusal comes only where the words mean nothing, or for want of memory
abbrev pub IsRefusal : Option Meaning → WordsFault → Type 0
IsRefusal meaning Usage = meaning ≡ None
IsRefusal meaning Memory = Unit {0}

-- the answer is exactly this meaning, Usage where there is none, or want of memory
abbrev pub Answers : Option Meaning → Result Request WordsFault → Type 0
Answers meaning answer = MatchResult answer (λ r. meaning ≡ Some (meaning_of r)) (IsRefusal meaning)

-- the words pass clap's own test for a command, and their values have their forms
pub record MeansIfTaken (words : List Text) : Type 0 where
  pub command : CommandName
  pub named : command_of words ≡ Some command
  pub taken : are_taken command words ≡ true
  pub formed : is_some (meaning_in command (rows_in command words)) ≡ true
