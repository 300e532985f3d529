-- Canonical words mean what they say.
use Rattle.std.proofs.Common.{◌≡◌, ◌∙◌, ◌≤◌, ℕ, Bool, true, false, List, [], ◌∷◌, ◌++◌, Some, None}
use Rattle.std.proofs.Common.{Result, Ok, Err, refl, ap, sym, codes, map, arith, decimal}
use Rattle.std.specs.Prelude.{unwrap_or}
use Rattle.std.specs.Str.{bytes_eq}
use Rattle.std.proofs.lemmas.Bool.Decides.{nat_tests}
use Rattle.clap.specs.Walk.{Row, Text, first_of, has_row}
use Rattle.command_words.specs.declared.names.CommandName.{CommandName}
use Rattle.command_words.specs.declared.names.CommandName.TheVariants.{Watch, OnFiles, Drill}
use Rattle.forms.specs.declared.StreamForm.TheVariants as stream
use Rattle.forms.specs.declared.LineForm.TheVariants as line
use Rattle.forms.specs.declared.ReportForm.TheVariants as report
use Rattle.command_words.specs.declared.request.Request.{Request}
use Rattle.command_words.specs.declared.request.WordsFault.{WordsFault}
use Rattle.command_words.specs.declared.request.WordsFault.TheVariants.{Usage, Memory}
use Rattle.command_words.specs.declared.request.FilesCommand.{FilesCommand}
use Rattle.command_words.specs.declared.request.FilesCommand.TheVariants.{Rewrite, Contain, Audit}
use Rattle.command_words.specs.declared.request.FilesCommand.TheVariants.{Explain, Verify, Streams}
use Rattle.command_words.specs.Commands.{command_named, command_of, files_word, has_barred_word}
use Rattle.command_words.specs.Commands.{is_barred_word}
use Rattle.command_words.specs.Meanings.{Answers, Meaning, file_in, is_file, meaning_in}
use Rattle.command_words.specs.Meanings.{meaning_of_words, number_in, report_form_in}
use Rattle.command_words.specs.Meanings.{flag_in, report_form_of, stream_form_in, stream_form_of}
use Rattle.command_words.specs.Canonical as said
use Rattle.command_words.specs.Canonical.{AreOnce, Canonical, Choice, IsCanonical, IsMeant}
use Rattle.command_words.specs.Canonical.{canonical_meaning, canonical_words, form, form_said}
use Rattle.command_words.specs.Canonical.{has_name, name_of, option_words, report_as, report_said}
use Rattle.command_words.specs.Canonical.{owl, owl_choices, report_word, sizes, stream_word}
use Rattle.command_words.proofs.Numerals.{decimal_is_file, decimal_says}
use Rattle.command_words.proofs.Walking.{Flag, flag_name, of_owl, of_sizes, report_word_is_file}
use Rattle.command_words.proofs.Walking.{stream_word_is_file}
use Rattle.command_words.proofs.RowsFound.{chosen, first_chosen, or_parts, place_rows}
use Rattle.command_words.proofs.RowsFound.{row_of_choice}
use Rattle.command_words.proofs.Accepted.{Takes, added, default_row, files_are_taken}
use Rattle.command_words.proofs.Accepted.{flags_added, no_faults, numbers_are_taken, option_rows}
use Rattle.command_words.proofs.Accepted.{options_are_taken, owl_rows, rows_are}
use Rattle.command_words.proofs.MeaningLemmas.{meaning_is, named_is}

-- ---- the command is named

file_is_fine : (t : Text) → is_file t ≡ true → is_barred_word t ≡ false
file_is_fine [] file = absurd (cc)
file_is_fine (x ∷ xs) file = grind (arith, nat_tests)

options_are_fine : (cs : List Choice) → has_barred_word (option_words cs) ≡ false
options_are_fine [] = refl
options_are_fine (form f ∷ cs) =
    rw (file_is_fine (stream_word f) (stream_word_is_file f)) (options_are_fine cs)
options_are_fine (report_as r ∷ cs) =
    rw (file_is_fine (report_word r) (report_word_is_file r)) (options_are_fine cs)
options_are_fine (sizes ∷ cs) = options_are_fine cs
options_are_fine (owl ∷ cs) = options_are_fine cs

watch_is_named : (a b : Text) (cs : List Choice) → is_file a ≡ true → is_file b ≡ true
    → command_of (codes "watch" ∷ a ∷ b ∷ option_words cs) ≡ Some Watch
unfolding command_of
watch_is_named a b cs first second =
    rw (file_is_fine a first, file_is_fine b second, options_are_fine cs)

files_word_is_free : (f : FilesCommand) → (is_barred_word (files_word f) ≡ false)
    × (command_named (files_word f) ≡ Some (OnFiles f))
files_word_is_free Rewrite = (refl, refl)
files_word_is_free Contain = (refl, refl)
files_word_is_free Audit = (refl, refl)
files_word_is_free Explain = (refl, refl)
files_word_is_free Verify = (refl, refl)
files_word_is_free Streams = (refl, refl)

on_files_is_named : (f : FilesCommand) (a b : Text) (is_owl : Bool) → is_file a ≡ true
    → is_file b ≡ true
    → command_of (files_word f ∷ a ∷ b ∷ option_words (owl_choices is_owl)) ≡ Some (OnFiles f)
unfolding command_of
on_files_is_named f a b is_owl first second =
    let word = files_word_is_free f in
    rw (
      word.0,
      file_is_fine a first,
      file_is_fine b second,
      options_are_fine (owl_choices is_owl),
    )
    word.1

drill_is_named : (a b : Text) → is_file a ≡ true → is_file b ≡ true
    → command_of (codes "drill" ∷ a ∷ b ∷ []) ≡ Some Drill
unfolding command_of
drill_is_named a b first second = rw (file_is_fine a first, file_is_fine b second)

-- words that are taken mean what their rows mean
taken_mean : (c : CommandName) (word : Text) (words : List Text) (rows : List Row)
    (meaning : Meaning) → command_of (word ∷ words) ≡ Some c → Takes c words rows
    → meaning_in c rows ≡ Some meaning → meaning_of_words (word ∷ words) ≡ Some meaning
taken_mean c word words rows meaning named takes means =
    named_is c (word ∷ words) named
    ∙ meaning_is c (word ∷ words) (Some meaning) rows (no_faults c word words rows takes)
    (sym (rows_are c word words rows takes)) (sym means)

-- ---- the options of a watch

none_added : (f : Flag) (id : Text) → bytes_eq (flag_name f) id ≡ false → (b : Bool)
    → first_of id (added f b) ≡ None
unfolding added default_row
none_added f id other true = refl
none_added f id other false = rw other

no_row_then : (id : Text) (cs : List Choice) (tail : List Row)
    → has_row id (map row_of_choice cs) ≡ false
    → (chosen id cs ≡ None) × (first_of id (map row_of_choice cs ++ tail) ≡ first_of id tail)
no_row_then id [] tail absent = (refl, refl)
no_row_then id (c ∷ cs) tail absent =
    let parts = or_parts (bytes_eq (name_of c) id) (has_row id (map row_of_choice cs)) absent in
    let later = no_row_then id cs tail parts.1 in
    (rw parts.0 later.0, rw parts.0 later.1)

owl_value : (cs : List Choice) (b other : Bool) → has_row (codes "owl") (map row_of_choice cs) ≡ b
    → unwrap_or (first_of (codes "owl") (map row_of_choice cs ++ (added of_owl b
    ++ added of_sizes other))) (codes "false")
    ≡ unwrap_or (chosen (codes "owl") cs) (codes "false")
unfolding added default_row
owl_value cs true other there =
    ap (λ o. unwrap_or o (codes "false"))
    (first_chosen (codes "owl") cs (added of_sizes other) (none_added of_sizes (codes "owl") refl
    other))
owl_value cs false other absent =
    let parts =
    no_row_then (codes "owl") cs (default_row of_owl ∷ added of_sizes other) absent in
    rw (parts.1, parts.0)

sizes_value : (cs : List Choice) (other b : Bool)
    → has_row (codes "sizes") (map row_of_choice cs) ≡ b
    → unwrap_or (first_of (codes "sizes") (map row_of_choice cs ++ (added of_owl other
    ++ added of_sizes b))) (codes "false")
    ≡ unwrap_or (chosen (codes "sizes") cs) (codes "false")
unfolding added default_row
sizes_value cs true true there =
    ap (λ o. unwrap_or o (codes "false")) (first_chosen (codes "sizes") cs [] refl)
sizes_value cs false true there =
    ap (λ o. unwrap_or o (codes "false"))
    (first_chosen (codes "sizes") cs (default_row of_owl ∷ []) refl)
sizes_value cs true false absent =
    let parts = no_row_then (codes "sizes") cs (default_row of_sizes ∷ []) absent in
    rw (parts.1, parts.0)
sizes_value cs false false absent =
    let parts =
    no_row_then (codes "sizes") cs (default_row of_owl ∷ default_row of_sizes ∷ []) absent in
    rw (parts.1, parts.0)

none_of_flags : (id : Text) → bytes_eq (codes "owl") id ≡ false
    → bytes_eq (codes "sizes") id ≡ false → (one other : Bool)
    → first_of id (added of_owl one ++ added of_sizes other) ≡ None
unfolding added default_row
none_of_flags id no_owl no_sizes true other = none_added of_sizes id no_sizes other
none_of_flags id no_owl no_sizes false other = rw no_owl (none_added of_sizes id no_sizes other)

form_chosen : (cs : List Choice)
    → stream_form_of (unwrap_or (chosen (codes "form") cs) (codes "text")) ≡ Some (form_said cs)
form_chosen [] = refl
form_chosen (form stream.Text ∷ cs) = refl
form_chosen (form stream.Json ∷ cs) = refl
form_chosen (report_as r ∷ cs) = form_chosen cs
form_chosen (sizes ∷ cs) = form_chosen cs
form_chosen (owl ∷ cs) = form_chosen cs

report_chosen : (cs : List Choice)
    → report_form_of (unwrap_or (chosen (codes "report") cs) (codes "text")) ≡ Some (report_said cs)
report_chosen [] = refl
report_chosen (form f ∷ cs) = report_chosen cs
report_chosen (report_as (report.Lines line.Text) ∷ cs) = refl
report_chosen (report_as report.Objects ∷ cs) = refl
report_chosen (report_as (report.Lines line.Csv) ∷ cs) = refl
report_chosen (sizes ∷ cs) = report_chosen cs
report_chosen (owl ∷ cs) = report_chosen cs

sizes_chosen : (cs : List Choice)
    → bytes_eq (unwrap_or (chosen (codes "sizes") cs) (codes "false")) (codes "true")
    ≡ has_name (codes "sizes") cs
sizes_chosen [] = refl
sizes_chosen (form f ∷ cs) = sizes_chosen cs
sizes_chosen (report_as r ∷ cs) = sizes_chosen cs
sizes_chosen (sizes ∷ cs) = refl
sizes_chosen (owl ∷ cs) = sizes_chosen cs

owl_chosen : (cs : List Choice)
    → bytes_eq (unwrap_or (chosen (codes "owl") cs) (codes "false")) (codes "true")
    ≡ has_name (codes "owl") cs
owl_chosen [] = refl
owl_chosen (form f ∷ cs) = owl_chosen cs
owl_chosen (report_as r ∷ cs) = owl_chosen cs
owl_chosen (sizes ∷ cs) = owl_chosen cs
owl_chosen (owl ∷ cs) = refl

-- whether the options have a row of this name
is_there : Text → List Choice → Bool
is_there id cs = has_row id (map row_of_choice cs)

form_is : (a b : Text) (cs : List Choice)
    → stream_form_in (place_rows Watch a b ++ option_rows cs) ≡ Some (form_said cs)
unfolding stream_form_in option_rows flags_added is_there
form_is a b cs =
    let is_owl : Bool = is_there (codes "owl") cs in
    let is_sizes : Bool = is_there (codes "sizes") cs in
    ap (λ o. stream_form_of (unwrap_or o (codes "text")))
    (first_chosen (codes "form") cs (added of_owl is_owl ++ added of_sizes is_sizes)
    (none_of_flags (codes "form") refl refl is_owl is_sizes)) ∙ form_chosen cs

report_is : (a b : Text) (cs : List Choice)
    → report_form_in (place_rows Watch a b ++ option_rows cs) ≡ Some (report_said cs)
unfolding report_form_in option_rows flags_added is_there
report_is a b cs =
    let is_owl : Bool = is_there (codes "owl") cs in
    let is_sizes : Bool = is_there (codes "sizes") cs in
    ap (λ o. report_form_of (unwrap_or o (codes "text")))
    (first_chosen (codes "report") cs (added of_owl is_owl ++ added of_sizes is_sizes)
    (none_of_flags (codes "report") refl refl is_owl is_sizes)) ∙ report_chosen cs

sizes_are : (a b : Text) (cs : List Choice)
    → flag_in (codes "sizes") (place_rows Watch a b ++ option_rows cs)
    ≡ has_name (codes "sizes") cs
unfolding flag_in option_rows flags_added is_there
sizes_are a b cs =
    ap (λ t. bytes_eq t (codes "true"))
    (sizes_value cs (is_there (codes "owl") cs) (is_there (codes "sizes") cs) refl)
    ∙ sizes_chosen cs

owl_is : (a b : Text) (cs : List Choice)
    → flag_in (codes "owl") (place_rows Watch a b ++ option_rows cs) ≡ has_name (codes "owl") cs
unfolding flag_in option_rows flags_added is_there
owl_is a b cs =
    ap (λ t. bytes_eq t (codes "true"))
    (owl_value cs (is_there (codes "owl") cs) (is_there (codes "sizes") cs) refl)
    ∙ owl_chosen cs

-- ---- the two places

ontology_is : (a b : Text) (tail : List Row) → is_file a ≡ true
    → file_in (codes "ontology") (place_rows Watch a b ++ tail) ≡ Some a
unfolding file_in
ontology_is a b tail file = rw file

queries_is : (a b : Text) (tail : List Row) → is_file b ≡ true
    → file_in (codes "queries") (place_rows Watch a b ++ tail) ≡ Some b
unfolding file_in
queries_is a b tail file = rw file

watch_means : (a b : Text) (cs : List Choice) → is_file a ≡ true → is_file b ≡ true
    → meaning_in Watch (place_rows Watch a b ++ option_rows cs)
    ≡ Some (canonical_meaning (said.watch a b cs))
unfolding meaning_in
watch_means a b cs first second =
    rw (
      ontology_is a b (option_rows cs) first,
      queries_is a b (option_rows cs) second,
      owl_is a b cs,
      form_is a b cs,
      report_is a b cs,
      sizes_are a b cs,
    )

flag_is : (f : FilesCommand) (a b : Text) (is_owl : Bool)
    → flag_in (codes "owl") (place_rows (OnFiles f) a b ++ owl_rows is_owl) ≡ is_owl
unfolding flag_in default_row
flag_is f a b true = refl
flag_is f a b false = refl

on_files_means : (f : FilesCommand) (a b : Text) (is_owl : Bool) → is_file a ≡ true
    → is_file b ≡ true
    → meaning_in (OnFiles f) (place_rows (OnFiles f) a b ++ owl_rows is_owl)
    ≡ Some (canonical_meaning (said.on_files f a b is_owl))
unfolding meaning_in
on_files_means f a b is_owl first second =
    rw (
      ontology_is a b (owl_rows is_owl) first,
      queries_is a b (owl_rows is_owl) second,
      flag_is f a b is_owl,
    )

seed_is : (a b : Text) (n : ℕ) → n ≤ 2147483647 → a ≡ decimal n
    → number_in 2147483647 (codes "seed") (place_rows Drill a b) ≡ Some n
unfolding number_in
seed_is a b n below is = rw is (decimal_says 2147483647 n below (omega arith))

count_is : (a b : Text) (n : ℕ) → n ≤ 100000 → b ≡ decimal n
    → number_in 100000 (codes "count") (place_rows Drill a b) ≡ Some n
unfolding number_in
count_is a b n below is = rw is (decimal_says 100000 n below (omega arith))

drill_means : (seed count : ℕ) → seed ≤ 2147483647 → count ≤ 100000
    → meaning_in Drill (place_rows Drill (decimal seed) (decimal count))
    ≡ Some (canonical_meaning (said.drill seed count))
unfolding meaning_in
drill_means seed count first second =
    rw (
      seed_is (decimal seed) (decimal count) seed first refl,
      count_is (decimal seed)
          (decimal count) count second refl,
    )

-- ---- the words

pub canonical_means : (c : Canonical) → IsCanonical c
    → meaning_of_words (canonical_words c) ≡ Some (canonical_meaning c)
canonical_means (said.watch a b cs) good =
    taken_mean Watch (codes "watch") (a ∷ b ∷ option_words cs) _ _
    (watch_is_named a b cs good.0 good.1) (options_are_taken a b cs good.0 good.1 good.2)
    (watch_means a b cs good.0 good.1)
canonical_means (said.on_files f a b is_owl) good =
    taken_mean (OnFiles f) (files_word f) (a ∷ b ∷ option_words (owl_choices is_owl)) _ _
    (on_files_is_named f a b is_owl good.0 good.1)
    (files_are_taken f a b is_owl good.0 good.1)
    (on_files_means f a b is_owl good.0 good.1)
canonical_means (said.drill seed count) good =
    let first = decimal_is_file seed (omega (arith, good.0)) in
    let second = decimal_is_file count (omega (arith, good.1)) in
    taken_mean Drill (codes "drill") (decimal seed ∷ decimal count ∷ []) _ _
    (drill_is_named (decimal seed) (decimal count) first second)
    (numbers_are_taken (decimal seed) (decimal count) first second)
    (drill_means seed count good.0 good.1)

-- an exact answer to canonical words is what they say
pub meant_is : (words : List Text) (answer : Result Request WordsFault) (c : Canonical)
    → Answers (meaning_of_words words) answer → IsCanonical c → words ≡ canonical_words c
    → IsMeant (canonical_meaning c) answer
meant_is words (Ok r) c answers good is =
    let means = ap meaning_of_words is ∙ canonical_means c good in cc (answers, means)
meant_is words (Err Usage) c answers good is =
    let means = ap meaning_of_words is ∙ canonical_means c good in absurd (cc (answers, means))
meant_is words (Err Memory) c answers good is = refl
