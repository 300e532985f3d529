-- Canonical words are accepted, with their meaning.
use Rattle.std.proofs.Common.{◌≡◌, ◌∙◌, Bool, true, false, List, [], ◌∷◌, ◌++◌, Some, None, refl}
use Rattle.std.proofs.Common.{ap, sym, codes, map, fold, append-nil, append_assoc, ◌||◌}
use Rattle.std.specs.Prelude.{if◌then◌else◌}
use Rattle.std.specs.Str.{bytes_eq}
use Rattle.std.proofs.lemmas.List.Folds.{list_any-append}
use Rattle.clap.specs.Simple.{Shape, argument_words, built, names_of}
use Rattle.clap.specs.Walk.{Held, Names, Row, Text, Walk, finished, has_row, more_values}
use Rattle.clap.specs.Walk.{nothing_held, reacted, reading_by, rows_after, walk, walk_from, walked}
use Rattle.clap.specs.Walk.{with_default}
use Rattle.clap.specs.Faults.{check_fault, level_fault, settle_fault, walk_fault}
use Rattle.clap.specs.declared.parser.matches.ValueSource.TheVariants.{DefaultValue}
use Rattle.clap.proofs.FaultLemmas.{leaf_fault}
use Rattle.clap.proofs.OnLiterals.{clap_on_literals}
use Rattle.command_words.specs.declared.names.CommandName.{CommandName}
use Rattle.command_words.specs.declared.names.CommandName.TheVariants.{Watch, OnFiles, Drill}
use Rattle.command_words.specs.declared.request.FilesCommand.{FilesCommand}
use Rattle.command_words.specs.Commands.{app_of_command, faults_in, rows_in}
use Rattle.command_words.specs.Meanings.{is_file}
use Rattle.command_words.specs.Canonical.{AreOnce, Choice, option_word, option_words, owl}
use Rattle.command_words.specs.Canonical.{owl_choices}
use Rattle.command_words.proofs.Walking.{Flag, flag_built, flag_name, held_after, held_places}
use Rattle.command_words.proofs.Walking.{no_names, of_owl, of_sizes, rules, shape, shape_is}
use Rattle.command_words.proofs.Walking.{stands, walk_options, walk_words}
use Rattle.command_words.proofs.RowsFound.{at_absent, fresh_at_first, place_rows, row_of_choice}
use Rattle.command_words.proofs.RowsFound.{rows_after_choices, rows_at, rows_of_places}
use Rattle.command_words.proofs.Passes.{check_passes, defaults_pass, finished_is, nothing_more}
use Rattle.command_words.proofs.Passes.{options_pass, places_settle, settle_after, with_flags}
use Rattle.command_words.proofs.Passes.{words_pass}

arguments_are : (c : CommandName) (word : Text) (words : List Text)
    → argument_words (app_of_command c) (word ∷ words) ≡ words
unfolding app_of_command
arguments_are Watch word words = refl
arguments_are (OnFiles f) word words = refl
arguments_are Drill word words = refl

no_subs : (c : CommandName) → (built (app_of_command c)).subs ≡ []
unfolding app_of_command clap_on_literals
no_subs Watch = refl
no_subs (OnFiles f) = refl
no_subs Drill = refl

-- ---- words that clap's exact function takes

-- the words after the command's name pass, and these rows are found in them
pub record Takes (c : CommandName) (words : List Text) (rows : List Row) : Type 0 where
  pub end : Held
  pub passes : walk_fault (shape c) [] (walk_from nothing_held) words ≡ []
  pub goes : fold (walked (rules c) []) (walk_from nothing_held) words ≡ stands end
  pub settles : settle_fault (rules c) false end ≡ []
  pub found : fold with_default (rows_at c end) (rules c) ≡ rows
  pub checked : check_fault (shape c) rows false ≡ []

level_passes : (c : CommandName) (words : List Text) (end : Held) (rows : List Row)
    → walk_fault (shape c) [] (walk_from nothing_held) words ≡ []
    → walk (rules c) [] nothing_held words ≡ stands end
    → settle_fault (rules c) false end ≡ [] → fold with_default (rows_at c end) (rules c) ≡ rows
    → check_fault (shape c) rows false ≡ []
    → level_fault (shape c) [] nothing_held words false [] ≡ []
level_passes c words end rows passes goes settles found checked =
    rw (passes, goes, settles, defaults_pass c (rows_at c end), found, checked)

pub no_faults : (c : CommandName) (word : Text) (words : List Text) (rows : List Row)
    → Takes c words rows → faults_in c (word ∷ words) ≡ []
unfolding faults_in
no_faults c word words rows takes =
    let all : List Text = word ∷ words in
    leaf_fault (built (app_of_command c)) nothing_held (argument_words (app_of_command c) all)
    (no_subs c)
    ∙ ap (λ (s : Shape). level_fault s [] nothing_held (argument_words (app_of_command c) all) false
    []) (shape_is c)
    ∙ ap (λ ws. level_fault (shape c) [] nothing_held ws false []) (arguments_are c word words)
    ∙ level_passes c words takes.end rows takes.passes takes.goes takes.settles takes.found
    takes.checked

pub rows_are : (c : CommandName) (word : Text) (words : List Text) (rows : List Row)
    → Takes c words rows → rows_in c (word ∷ words) ≡ rows
unfolding rows_in
rows_are c word words rows takes =
    let all : List Text = word ∷ words in
    ap (λ (s : Shape). rows_after s.rules (names_of (built (app_of_command c)))
    (argument_words (app_of_command c) all)) (shape_is c)
    ∙ ap (λ (ns : Names). rows_after (rules c) ns (argument_words (app_of_command c) all))
    (no_names c)
    ∙ ap (rows_after (rules c) []) (arguments_are c word words)
    ∙ ap (λ (w : Walk). finished (rules c) w.held) takes.goes
    ∙ takes.found

-- ---- the flags that aren't there

or_false : (b : Bool) → (b || false) ≡ b
or_false true = refl
or_false false = refl

-- the row of a flag that isn't there
unfoldable pub default_row : Flag → Row
default_row f = record {
  id = flag_name f;
  values = codes "false" ∷ [];
  count = None;
  source =
      Some DefaultValue;
  reading = reading_by (flag_built (flag_name f));
}

-- what the default adds, where the flag is there or isn't
unfoldable pub added : Flag → Bool → List Row
added f b = if b then [] else default_row f ∷ []

with_flag : (f : Flag) (rows : List Row) (b : Bool) → has_row (flag_name f) rows ≡ b
    → with_default rows (flag_built (flag_name f)) ≡ rows ++ added f b
unfolding default_row added
with_flag f rows true there = rw there (sym (append-nil rows))
with_flag f rows false absent =
    rw absent (at_absent (flag_name f) (more_values DefaultValue (codes "false" ∷ []))
    (default_row f ∷ []) rows absent)

-- ---- two words alone

two_found : (c : CommandName) (a b : Text) (tail : List Row)
    → with_flags c (place_rows c a b) ≡ place_rows c a b ++ tail
    → fold with_default (rows_at c (held_places c a b)) (rules c) ≡ place_rows c a b ++ tail
two_found c a b tail flagged =
    ap (λ rs. fold with_default rs (rules c)) (rows_of_places c a b) ∙ finished_is c
    (place_rows c a b) ∙ flagged

two_are_taken : (c : CommandName) (a b : Text) (tail : List Row) → is_file a ≡ true
    → is_file b ≡ true → with_flags c (place_rows c a b) ≡ place_rows c a b ++ tail
    → Takes c (a ∷ b ∷ []) (place_rows c a b ++ tail)
two_are_taken c a b tail first second flagged = record {
  end = held_places c a b;
  passes = words_pass c a b [] first second (nothing_more c (stands (held_places c a b)));
  goes = walk_words c a b [] first second;
  settles = places_settle c a b;
  found = two_found c a b tail flagged;
  checked = check_passes c a b tail;
}

pub numbers_are_taken : (a b : Text) → is_file a ≡ true → is_file b ≡ true
    → Takes Drill (a ∷ b ∷ []) (place_rows Drill a b)
numbers_are_taken a b first second = two_are_taken Drill a b [] first second refl

-- ---- two files, and whether the ontology is an OWL 2 document

held_flag : FilesCommand → Text → Text → Held
held_flag f a b =
    reacted (rules (OnFiles f)) (flag_built (codes "owl")) [] (held_places (OnFiles f) a b)

flag_passes : (f : FilesCommand) (a b : Text)
    → walk_fault (shape (OnFiles f)) [] (stands (held_places (OnFiles f) a b))
    (option_word (codes "owl") ∷ []) ≡ []
unfolding rules walk_fault clap_on_literals
flag_passes f a b = refl

flag_goes : (f : FilesCommand) (a b : Text)
    → fold (walked (rules (OnFiles f)) []) (stands (held_places (OnFiles f) a b))
    (option_word (codes "owl") ∷ []) ≡ stands (held_flag f a b)
unfolding rules held_flag walked clap_on_literals
flag_goes f a b = refl

flag_settles : (f : FilesCommand) (a b : Text)
    → settle_fault (rules (OnFiles f)) false (held_flag f a b) ≡ []
unfolding rules held_flag clap_on_literals
flag_settles f a b = refl

flag_found : (f : FilesCommand) (a b : Text)
    → fold with_default (rows_at (OnFiles f) (held_flag f a b)) (rules (OnFiles f))
    ≡ place_rows (OnFiles f) a b ++ row_of_choice owl ∷ []
unfolding rules held_flag clap_on_literals
flag_found f a b = refl

defaults_found : (f : FilesCommand) (a b : Text)
    → with_flags (OnFiles f) (place_rows (OnFiles f) a b)
    ≡ place_rows (OnFiles f) a b ++ default_row of_owl ∷ []
unfolding default_row
defaults_found f a b = refl

-- the row of the flag, there or not
abbrev pub owl_rows : Bool → List Row
owl_rows is_owl = if is_owl then row_of_choice owl ∷ [] else default_row of_owl ∷ []

pub files_are_taken : (f : FilesCommand) (a b : Text) (is_owl : Bool) → is_file a ≡ true
    → is_file b ≡ true
    → Takes (OnFiles f) (a ∷ b ∷ option_words (owl_choices is_owl))
    (place_rows (OnFiles f) a b ++ owl_rows is_owl)
files_are_taken f a b false first second =
    two_are_taken (OnFiles f) a b (default_row of_owl ∷ []) first second (defaults_found f a b)
files_are_taken f a b true first second = record {
  end = held_flag f a b;
  passes = words_pass (OnFiles f) a b (option_word (codes "owl") ∷ []) first second
      (flag_passes f a b);
  goes = walk_words (OnFiles f) a b (option_word (codes "owl") ∷ []) first second
      ∙ flag_goes f a b;
  settles = flag_settles f a b;
  found = flag_found f a b;
  checked = check_passes (OnFiles f) a b (row_of_choice owl ∷ []);
}

-- ---- two files and the options of a watch

-- what the defaults of the flags add to these rows
unfoldable pub flags_added : List Row → List Row
flags_added rows =
    added of_owl (has_row (codes "owl") rows) ++ added of_sizes (has_row (codes "sizes") rows)

no_sizes_added : (rows : List Row) (b : Bool)
    → has_row (codes "sizes") (rows ++ added of_owl b) ≡ has_row (codes "sizes") rows
unfolding added default_row
no_sizes_added rows true = ap (has_row (codes "sizes")) (append-nil rows)
no_sizes_added rows false =
    list_any-append (λ (r : Row). bytes_eq r.id (codes "sizes")) rows (default_row of_owl ∷ [])
    ∙ or_false (has_row (codes "sizes") rows)

with_both : (rows : List Row)
    → with_default (with_default rows (flag_built (codes "owl"))) (flag_built (codes "sizes"))
    ≡ rows ++ flags_added rows
unfolding flags_added
with_both rows =
    let is_owl : Bool = has_row (codes "owl") rows in
    let is_sizes : Bool = has_row (codes "sizes") rows in
    ap (λ rs. with_default rs (flag_built (codes "sizes"))) (with_flag of_owl rows is_owl refl)
    ∙ with_flag of_sizes (rows ++ added of_owl is_owl) is_sizes (no_sizes_added rows is_owl)
    ∙ append_assoc rows (added of_owl is_owl) (added of_sizes is_sizes)

-- the rows that the options give, with what the defaults add
unfoldable pub option_rows : List Choice → List Row
option_rows cs = map row_of_choice cs ++ flags_added (map row_of_choice cs)

same_added : (a b : Text) (rows : List Row)
    → flags_added (place_rows Watch a b ++ rows) ≡ flags_added rows
unfolding flags_added
same_added a b rows = refl

ends_held : Text → Text → List Choice → Held
ends_held a b cs = held_after cs (held_places Watch a b)

rows_at_end : (a b : Text) (cs : List Choice) → AreOnce cs
    → fold with_default (rows_at Watch (ends_held a b cs)) (rules Watch)
    ≡ place_rows Watch a b ++ option_rows cs
unfolding option_rows ends_held
rows_at_end a b cs once =
    ap (λ rows. fold with_default rows (rules Watch))
    (rows_after_choices cs (held_places Watch a b) once (fresh_at_first cs a b)
    ∙ ap (λ rows. rows ++ map row_of_choice cs) (rows_of_places Watch a b))
    ∙ finished_is Watch (place_rows Watch a b ++ map row_of_choice cs)
    ∙ with_both (place_rows Watch a b ++ map row_of_choice cs)
    ∙ ap (λ rows. (place_rows Watch a b ++ map row_of_choice cs) ++ rows)
    (same_added a b (map row_of_choice cs))
    ∙ append_assoc (place_rows Watch a b) (map row_of_choice cs)
    (flags_added (map row_of_choice cs))

pub options_are_taken : (a b : Text) (cs : List Choice) → is_file a ≡ true → is_file b ≡ true
    → AreOnce cs
    → Takes Watch (a ∷ b ∷ option_words cs) (place_rows Watch a b ++ option_rows cs)
unfolding ends_held
options_are_taken a b cs first second once = record {
  end = ends_held a b cs;
  passes = words_pass Watch a b (option_words cs) first second
      (options_pass cs (held_places Watch a b) once (fresh_at_first cs a b)
      (places_settle Watch a b));
  goes = walk_words Watch a b (option_words cs) first second ∙ walk_options cs
      (held_places Watch a b);
  settles = settle_after cs (held_places Watch a b) once (fresh_at_first cs a b)
      (places_settle Watch a b);
  found = rows_at_end a b cs once;
  checked = check_passes Watch a b (option_rows cs);
}
