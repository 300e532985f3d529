-- The canonical words of each command: its name, its two arguments, and its options.
use Rattle.std.specs.Prelude.{◌≡◌, ◌≤◌, ℕ, Bool, true, false, List, [], ◌∷◌, codes, decimal}
use Rattle.std.specs.Prelude.{if◌then◌else◌, MatchResult, Result}
use Rattle.std.specs.List.{list_any}
use Rattle.std.specs.Str.{bytes_eq}
use Rattle.clap.specs.Walk.{Text}
use Rattle.forms.specs.declared.StreamForm.{StreamForm}
use Rattle.forms.specs.declared.StreamForm.TheVariants as stream
use Rattle.forms.specs.declared.ReportForm.{ReportForm}
use Rattle.forms.specs.declared.LineForm.TheVariants as line
use Rattle.forms.specs.declared.ReportForm.TheVariants as report
use Rattle.command_words.specs.declared.request.FilesCommand.{FilesCommand}
use Rattle.command_words.specs.declared.request.Request.{Request}
use Rattle.command_words.specs.declared.request.WordsFault.{WordsFault}
use Rattle.command_words.specs.declared.request.WordsFault.TheVariants.{Memory}
use Rattle.command_words.specs.Commands.{files_word}
use Rattle.command_words.specs.Meanings.{Meaning, is_file, meaning_of}
use Rattle.command_words.specs.Meanings as meaning

-- an option of a watch, with its value
pub data Choice : Type 0 where
  form : StreamForm → Choice
  report_as : ReportForm → Choice
  sizes : Choice
  owl : Choice

-- the command with what follows its name. The one option of a command on files stands or not
pub data Canonical : Type 0 where
  watch : Text → Text → List Choice → Canonical
  on_files : FilesCommand → Text → Text → Bool → Canonical
  drill : ℕ → ℕ → Canonical

-- ---- the words

-- the word for a form of the stream
abbrev pub stream_word : StreamForm → Text
stream_word stream.Text = codes "text"
stream_word stream.Json = codes "json"

-- the word for a form of the report
abbrev pub report_word : ReportForm → Text
report_word (report.Lines line.Text) = codes "text"
report_word report.Objects = codes "json"
report_word (report.Lines line.Csv) = codes "csv"

-- the name of an option
abbrev pub name_of : Choice → Text
name_of (form f) = codes "form"
name_of (report_as r) = codes "report"
name_of sizes = codes "sizes"
name_of owl = codes "owl"

-- the word for an option: two hyphens (45) and its name
abbrev pub option_word : Text → Text
option_word name = 45 ∷ 45 ∷ name

-- each option, its value in the word after it
abbrev pub option_words : List Choice → List Text
option_words [] = []
option_words (form f ∷ rest) = option_word (codes "form") ∷ stream_word f ∷ option_words rest
option_words (report_as r ∷ rest) = option_word (codes "report") ∷ report_word r ∷ option_words rest
option_words (sizes ∷ rest) = option_word (codes "sizes") ∷ option_words rest
option_words (owl ∷ rest) = option_word (codes "owl") ∷ option_words rest

-- the option that says that the ontology is an OWL 2 document, where it is
abbrev pub owl_choices : Bool → List Choice
owl_choices is_owl = if is_owl then owl ∷ [] else []

-- the canonical words
abbrev pub canonical_words : Canonical → List Text
canonical_words (watch ontology queries choices) =
    codes "watch" ∷ ontology ∷ queries ∷ option_words choices
canonical_words (on_files command ontology queries is_owl) =
    files_word command ∷ ontology ∷ queries ∷ option_words (owl_choices is_owl)
canonical_words (drill seed count) = codes "drill" ∷ decimal seed ∷ decimal count ∷ []

-- ---- which are canonical

-- one of the options has this name
abbrev pub has_name : Text → List Choice → Bool
has_name name choices = list_any (λ choice. bytes_eq name (name_of choice)) choices

-- each option stands at most once
abbrev pub AreOnce : List Choice → Type 0
AreOnce [] = Unit {0}
AreOnce (choice ∷ rest) = (has_name (name_of choice) rest ≡ false) × AreOnce rest

-- the files have names that may name a file, each option stands at most once, and no number is
-- above its limit
abbrev pub IsCanonical : Canonical → Type 0
IsCanonical (watch ontology queries choices) = (is_file ontology ≡ true) × (is_file queries ≡ true)
    × AreOnce choices
IsCanonical (on_files command ontology queries is_owl) =
    (is_file ontology ≡ true) × (is_file queries ≡ true)
IsCanonical (drill seed count) = (seed ≤ 2147483647) × (count ≤ 100000)

-- ---- what they say

-- the form of the stream that the options say, or text
abbrev pub form_said : List Choice → StreamForm
form_said [] = stream.Text
form_said (form f ∷ rest) = f
form_said (report_as r ∷ rest) = form_said rest
form_said (sizes ∷ rest) = form_said rest
form_said (owl ∷ rest) = form_said rest

-- the form of the report that the options say, or text
abbrev pub report_said : List Choice → ReportForm
report_said [] = report.Lines line.Text
report_said (form f ∷ rest) = report_said rest
report_said (report_as r ∷ rest) = r
report_said (sizes ∷ rest) = report_said rest
report_said (owl ∷ rest) = report_said rest

-- what the canonical words mean
abbrev pub canonical_meaning : Canonical → Meaning
canonical_meaning (watch ontology queries choices) = meaning.watch (record {
  ontology = ontology;
  queries = queries;
  owl = has_name (codes "owl") choices;
  form = form_said choices;
  report = report_said choices;
  sizes = has_name (codes "sizes") choices;
})
canonical_meaning (on_files command ontology queries is_owl) =
    meaning.on_files command ontology queries is_owl
canonical_meaning (drill seed count) = meaning.drill seed count

-- the answer is this meaning, or want of memory
abbrev pub IsMeant : Meaning → Result Request WordsFault → Type 0
IsMeant meaning answer = MatchResult answer (λ request. meaning_of request ≡ meaning) (λ fault.
    fault ≡ Memory)
