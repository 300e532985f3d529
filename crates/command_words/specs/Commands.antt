-- The commands, and what clap makes of the words of each.
use Rattle.std.specs.Prelude.{◌||◌, Bool, true, List, [], ◌∷◌, Option, Some, None, codes}
use Rattle.std.specs.Prelude.{if◌then◌else◌, map, option_map, String, string_bytes}
use Rattle.std.specs.declared.alloc.Global.{Global}
use Rattle.std.specs.List.{list_any}
use Rattle.std.specs.Str.{bytes_eq}
use Rattle.clap.specs.Words.{App, Kinds, Row, Rule, Text, fault_of, matches_of, new_app, new_rule}
use Rattle.clap.specs.Words.{takes, with_rule}
use Rattle.clap.specs.Simple.{on_top}
use Rattle.clap.specs.declared.builder.action.ArgAction.TheVariants.{SetTrue}
use Rattle.command_words.specs.declared.names.CommandName.{CommandName}
use Rattle.command_words.specs.declared.names.CommandName.TheVariants.{Watch, OnFiles, Drill}
use Rattle.command_words.specs.declared.request.FilesCommand.{FilesCommand}
use Rattle.command_words.specs.declared.request.FilesCommand.TheVariants.{Rewrite, Contain, Audit}
use Rattle.command_words.specs.declared.request.FilesCommand.TheVariants.{Explain, Verify, Streams}

-- the words as texts
abbrev pub texts_of : List (String Global) → List Text
texts_of = map (λ word. string_bytes word)

-- ---- which command

-- the word that names a command on files
abbrev pub files_word : FilesCommand → Text
files_word Rewrite = codes "rewrite"
files_word Contain = codes "contain"
files_word Audit = codes "audit"
files_word Explain = codes "explain"
files_word Verify = codes "verify"
files_word Streams = codes "streams"

-- the command on files that the word names
abbrev pub files_named : Text → Option FilesCommand
files_named word = if bytes_eq word (files_word Rewrite) then Some Rewrite
    else (if bytes_eq word (files_word Contain) then Some Contain
    else (if bytes_eq word (files_word Audit) then Some Audit
    else (if bytes_eq word (files_word Explain) then Some Explain
    else (if bytes_eq word (files_word Verify) then Some Verify
    else (if bytes_eq word (files_word Streams) then Some Streams else None)))))

-- the command of this name
abbrev pub command_named : Text → Option CommandName
command_named word = if bytes_eq word (codes "watch") then Some Watch
    else (if bytes_eq word (codes "drill") then Some Drill
    else option_map OnFiles (files_named word))

-- the command that the first word names
abbrev pub first_command : List Text → Option CommandName
first_command [] = None
first_command (word ∷ words) = command_named word

-- a word that no command takes: the empty one, `-` (45) and `--`
abbrev pub is_barred_word : Text → Bool
is_barred_word word = bytes_eq word [] || (bytes_eq word (45 ∷ []) || bytes_eq word (45 ∷ 45 ∷ []))

-- one of the words is taken by no command
abbrev pub has_barred_word : List Text → Bool
has_barred_word = list_any is_barred_word

-- the command by whose arguments the words are read
unfoldable pub command_of : List Text → Option CommandName
command_of words = if has_barred_word words then None else first_command words

-- ---- the arguments of each command

-- an argument that has to be there, known by its place
abbrev pub place_rule : Text → Rule
place_rule id = record (new_rule id) { required = true }

-- the option `--name VALUE`
abbrev pub value_rule : Text → Rule
value_rule name = record (new_rule name) { long = Some name }

-- the flag `--name`
abbrev pub flag_rule : Text → Rule
flag_rule name = record (new_rule name) { long = Some name; action = Some SetTrue }

-- a command without a help flag
abbrev pub without_help : App → App
without_help = on_top (λ shape. record shape { disable_help_flag = true })

-- a command of two arguments
abbrev pub places_app : Text → Text → Text → App
places_app name first second =
    with_rule (with_rule (without_help (new_app name)) (place_rule first)) (place_rule second)

-- a command of an ontology and queries, with the flag that says how the ontology is written
abbrev pub files_app : Text → App
files_app name =
    with_rule (places_app name (codes "ontology") (codes "queries")) (flag_rule (codes "owl"))

-- the command with its arguments, its options and its flags
unfoldable pub app_of_command : CommandName → App
app_of_command Watch = with_rule (with_rule (with_rule (files_app (codes "watch"))
    (value_rule (codes "form"))) (value_rule (codes "report"))) (flag_rule (codes "sizes"))
app_of_command (OnFiles command) = files_app (files_word command)
app_of_command Drill = places_app (codes "drill") (codes "seed") (codes "count")

-- ---- clap's exact function of a simple command, which reads the words after the first

-- the faults that it finds in the words
unfoldable pub faults_in : CommandName → List Text → Kinds
faults_in command words = fault_of (app_of_command command) words

-- the arguments that it finds in the words, each with its values, where it finds no fault
unfoldable pub rows_in : CommandName → List Text → List Row
rows_in command words = matches_of (app_of_command command) words

-- its own test that the words are taken
unfoldable pub are_taken : CommandName → List Text → Bool
are_taken command words = takes (app_of_command command) words
