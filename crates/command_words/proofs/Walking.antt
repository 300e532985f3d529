-- The walk of clap's exact function over canonical words.
use Rattle.std.proofs.Common.{◌≡◌, ◌∙◌, ℕ, true, false, List, [], ◌∷◌, Some, None, refl, ap, codes}
use Rattle.std.proofs.Common.{fold, arith}
use Rattle.std.specs.Str.{bytes_eq}
use Rattle.clap.specs.Lexer.{long_of, short_of}
use Rattle.clap.specs.Walk.{Held, Rule, Text, Walk, arg_by_id, arg_by_long, idle, nothing_held}
use Rattle.clap.specs.Walk.{option, reacted, settled, used, walk_from, walked}
use Rattle.clap.specs.Simple.{Shape, built, filled, names_of, new_shape, with_index}
use Rattle.clap.proofs.OnLiterals.{clap_on_literals}
use Rattle.command_words.specs.declared.names.CommandName.{CommandName}
use Rattle.command_words.specs.declared.names.CommandName.TheVariants.{Watch, OnFiles, Drill}
use Rattle.forms.specs.declared.StreamForm.{StreamForm}
use Rattle.forms.specs.declared.StreamForm.TheVariants as stream
use Rattle.forms.specs.declared.ReportForm.{ReportForm}
use Rattle.forms.specs.declared.LineForm.TheVariants as line
use Rattle.forms.specs.declared.ReportForm.TheVariants as report
use Rattle.command_words.specs.Commands.{app_of_command, files_word, flag_rule, place_rule}
use Rattle.command_words.specs.Commands.{value_rule}
use Rattle.command_words.specs.Meanings.{is_file}
use Rattle.command_words.specs.Canonical.{Choice, form, report_as, sizes, owl, option_word}
use Rattle.command_words.specs.Canonical.{option_words, report_word, stream_word}

-- ---- each command as it is built

abbrev pub place_built : ℕ → Text → Rule
place_built i id = with_index i (filled (place_rule id))

abbrev pub value_built : Text → Rule
value_built name = with_index 3 (filled (value_rule name))

abbrev pub flag_built : Text → Rule
flag_built name = with_index 3 (filled (flag_rule name))

abbrev pub first_id : CommandName → Text
first_id Watch = codes "ontology"
first_id (OnFiles f) = codes "ontology"
first_id Drill = codes "seed"

abbrev pub second_id : CommandName → Text
second_id Watch = codes "queries"
second_id (OnFiles f) = codes "queries"
second_id Drill = codes "count"

abbrev pub command_name : CommandName → Text
command_name Watch = codes "watch"
command_name (OnFiles f) = files_word f
command_name Drill = codes "drill"

abbrev option_rules : CommandName → List Rule
option_rules Watch =
    flag_built (codes "owl") ∷ value_built (codes "form") ∷ value_built (codes "report")
    ∷ flag_built (codes "sizes") ∷ []
option_rules (OnFiles f) = flag_built (codes "owl") ∷ []
option_rules Drill = []

unfoldable pub rules : CommandName → List Rule
rules c = place_built 1 (first_id c) ∷ place_built 2 (second_id c) ∷ option_rules c

abbrev pub shape : CommandName → Shape
shape c = record (new_shape (command_name c)) {
  rules = rules c;
  disable_help_flag =
      true;
  disable_help_subcommand = true;
  is_built = true;
}

pub shape_is : (c : CommandName) → (built (app_of_command c)).top ≡ shape c
unfolding app_of_command rules clap_on_literals
shape_is Watch = refl
shape_is (OnFiles f) = refl
shape_is Drill = refl

pub no_names : (c : CommandName) → names_of (built (app_of_command c)) ≡ []
unfolding app_of_command clap_on_literals
no_names Watch = refl
no_names (OnFiles f) = refl
no_names Drill = refl

-- ---- words that may name a file

pub file_is_plain : (t : Text) → is_file t ≡ true
    → (long_of t ≡ None) × (short_of t ≡ None) × (bytes_eq t (45 ∷ 45 ∷ []) ≡ false)
file_is_plain [] file = absurd (cc)
file_is_plain (x ∷ xs) file = grind arith

pub stream_word_is_file : (f : StreamForm) → is_file (stream_word f) ≡ true
stream_word_is_file stream.Text = refl
stream_word_is_file stream.Json = refl

pub report_word_is_file : (r : ReportForm) → is_file (report_word r) ≡ true
report_word_is_file (report.Lines line.Text) = refl
report_word_is_file report.Objects = refl
report_word_is_file (report.Lines line.Csv) = refl

-- ---- one option

-- the options that take a value
pub data Valued : Type 0 where
  of_form : Valued
  of_report : Valued

abbrev pub valued_name : Valued → Text
valued_name of_form = codes "form"
valued_name of_report = codes "report"

pub by_long : (n : Valued) → arg_by_long (rules Watch) (valued_name n)
    ≡ Some (value_built (valued_name n))
unfolding rules clap_on_literals
by_long of_form = refl
by_long of_report = refl

pub by_id : (n : Valued) → arg_by_id (rules Watch) (valued_name n)
    ≡ Some (value_built (valued_name n))
unfolding rules clap_on_literals
by_id of_form = refl
by_id of_report = refl

-- the flags
pub data Flag : Type 0 where
  of_sizes : Flag
  of_owl : Flag

abbrev pub flag_name : Flag → Text
flag_name of_sizes = codes "sizes"
flag_name of_owl = codes "owl"

pub flag_by_long : (f : Flag) → arg_by_long (rules Watch) (flag_name f)
    ≡ Some (flag_built (flag_name f))
unfolding rules clap_on_literals
flag_by_long of_sizes = refl
flag_by_long of_owl = refl

pub option_reads : (n : Valued)
    → (long_of (option_word (valued_name n)) ≡ Some (valued_name n, None))
    × (bytes_eq (option_word (valued_name n)) (45 ∷ 45 ∷ []) ≡ false)
unfolding clap_on_literals
option_reads of_form = (refl, refl)
option_reads of_report = (refl, refl)

same_name : (n : Valued) → bytes_eq (valued_name n) (valued_name n) ≡ true
same_name of_form = refl
same_name of_report = refl

-- the walk stands after an option that is whole
abbrev pub stands : Held → Walk
stands h = record { held = h; waiting = idle; position = 3; is_trailing = false; stopped = None }

-- the walk stands where an option waits for its value
abbrev pub waits : Text → Held → Walk
waits id h = record {
  held = record (settled (rules Watch) h) { pending = Some (id, []) };
  waiting =
      option id;
  position = 3;
  is_trailing = false;
  stopped = None;
}

-- what is held after an option with a value, and after a flag
abbrev pub held_value : Valued → Text → Held → Held
held_value n t h = record (settled (rules Watch) h) { pending = Some (valued_name n, t ∷ []) }

abbrev pub held_with : Choice → Held → Held
held_with (form f) h = held_value of_form (stream_word f) h
held_with (report_as r) h = held_value of_report (report_word r) h
held_with sizes h = reacted (rules Watch) (flag_built (codes "sizes")) [] h
held_with owl h = reacted (rules Watch) (flag_built (codes "owl")) [] h

pub name_step : (n : Valued) (h : Held)
    → walked (rules Watch) [] (stands h) (option_word (valued_name n)) ≡ waits (valued_name n) h
unfolding walked
name_step n h = rw ((option_reads n).1, (option_reads n).0, by_long n)

pub value_step : (n : Valued) (h : Held) (t : Text) → is_file t ≡ true
    → walked (rules Watch) [] (waits (valued_name n) h) t ≡ stands (held_value n t h)
unfolding walked clap_on_literals
value_step n h t file =
    let plain = file_is_plain t file in
    rw (plain.2, plain.0, plain.1, by_id n, same_name n)

pub sizes_step : (h : Held) → walked (rules Watch) [] (stands h) (option_word (codes "sizes"))
    ≡ stands (held_with sizes h)
unfolding walked clap_on_literals
sizes_step h = rw (flag_by_long of_sizes)

pub owl_step : (h : Held) → walked (rules Watch) [] (stands h) (option_word (codes "owl"))
    ≡ stands (held_with owl h)
unfolding walked clap_on_literals
owl_step h = rw (flag_by_long of_owl)

-- ---- the options in turn

abbrev pub held_after : List Choice → Held → Held
held_after [] h = h
held_after (c ∷ cs) h = held_after cs (held_with c h)

walk_value : (n : Valued) (t : Text) (h end : Held) (rest : List Text) → is_file t ≡ true
    → fold (walked (rules Watch) []) (stands (held_value n t h)) rest ≡ stands end
    → fold (walked (rules Watch) []) (stands h) (option_word (valued_name n) ∷ t ∷ rest)
    ≡ stands end
walk_value n t h end rest file later =
    ap (λ w. fold (walked (rules Watch) []) (walked (rules Watch) [] w t) rest) (name_step n h)
    ∙ ap (λ w. fold (walked (rules Watch) []) w rest) (value_step n h t file)
    ∙ later

pub walk_options : (cs : List Choice) (h : Held)
    → fold (walked (rules Watch) []) (stands h) (option_words cs) ≡ stands (held_after cs h)
walk_options [] h = refl
walk_options (form f ∷ cs) h =
    walk_value of_form (stream_word f) h (held_after cs (held_with (form f) h)) (option_words cs)
    (stream_word_is_file f) (walk_options cs (held_with (form f) h))
walk_options (report_as r ∷ cs) h =
    walk_value of_report (report_word r) h (held_after cs (held_with (report_as r) h))
    (option_words cs) (report_word_is_file r) (walk_options cs (held_with (report_as r) h))
walk_options (sizes ∷ cs) h =
    ap (λ w. fold (walked (rules Watch) []) w (option_words cs)) (sizes_step h) ∙ walk_options cs
    (held_with sizes h)
walk_options (owl ∷ cs) h =
    ap (λ w. fold (walked (rules Watch) []) w (option_words cs)) (owl_step h) ∙ walk_options cs
    (held_with owl h)

-- ---- the two words that stand at their places

abbrev pub held_first : CommandName → Text → Held
held_first c a = record { rows = []; pending = Some (first_id c, a ∷ []); skip = 0 }

abbrev pub stands_first : CommandName → Text → Walk
stands_first c a = record {
  held = held_first c a;
  waiting = idle;
  position = 2;
  is_trailing =
      false;
  stopped = None;
}

abbrev pub held_places : CommandName → Text → Text → Held
held_places c a b = record {
  rows = used (place_built 1 (first_id c)) (a ∷ []) [];
  pending =
      Some (second_id c, b ∷ []);
  skip = 0;
}

pub first_step : (c : CommandName) (a : Text) → is_file a ≡ true
    → walked (rules c) [] (walk_from nothing_held) a ≡ stands_first c a
unfolding walked rules clap_on_literals
first_step Watch a file = let plain = file_is_plain a file in rw (plain.2, plain.0, plain.1)
first_step (OnFiles f) a file = let plain = file_is_plain a file in rw (plain.2, plain.0, plain.1)
first_step Drill a file = let plain = file_is_plain a file in rw (plain.2, plain.0, plain.1)

pub second_step : (c : CommandName) (a b : Text) → is_file b ≡ true
    → walked (rules c) [] (stands_first c a) b ≡ stands (held_places c a b)
unfolding walked rules clap_on_literals
second_step Watch a b file = let plain = file_is_plain b file in rw (plain.2, plain.0, plain.1)
second_step (OnFiles f) a b file =
    let plain = file_is_plain b file in rw (plain.2, plain.0, plain.1)
second_step Drill a b file = let plain = file_is_plain b file in rw (plain.2, plain.0, plain.1)

pub walk_words : (c : CommandName) (a b : Text) (rest : List Text) → is_file a ≡ true
    → is_file b ≡ true
    → fold (walked (rules c) []) (walk_from nothing_held) (a ∷ b ∷ rest)
    ≡ fold (walked (rules c) []) (stands (held_places c a b)) rest
walk_words c a b rest first second =
    ap (λ w. fold (walked (rules c) []) (walked (rules c) [] w b) rest) (first_step c a first)
    ∙ ap (λ w. fold (walked (rules c) []) w rest) (second_step c a b second)
