-- Canonical words have no fault by clap's exact function.
use Rattle.std.proofs.Common.{◌≡◌, ◌∙◌, Bool, true, false, List, [], ◌∷◌, ◌++◌, refl, ap, codes}
use Rattle.std.proofs.Common.{◌||◌, fold}
use Rattle.std.specs.Prelude.{if◌then◌else◌}
use Rattle.clap.specs.Words.{Kinds}
use Rattle.clap.specs.Kinds.{or_else}
use Rattle.clap.specs.Walk.{Held, Row, Text, Walk, has_row, nothing_held, walk_from, walked}
use Rattle.clap.specs.Walk.{with_default}
use Rattle.clap.specs.Faults.{check_fault, defaults_fault, settle_fault, turn_fault, walk_fault}
use Rattle.clap.proofs.OnLiterals.{clap_on_literals}
use Rattle.command_words.specs.declared.names.CommandName.{CommandName}
use Rattle.command_words.specs.declared.names.CommandName.TheVariants.{Watch, OnFiles, Drill}
use Rattle.command_words.specs.Meanings.{is_file}
use Rattle.command_words.specs.Canonical.{AreOnce, Choice, form, name_of, option_word, option_words}
use Rattle.command_words.specs.Canonical.{owl, report_as, report_word, sizes, stream_word}
use Rattle.command_words.proofs.Walking.{Valued, by_id, by_long, file_is_plain, first_step}
use Rattle.command_words.proofs.Walking.{flag_built, flag_by_long, held_after, held_places}
use Rattle.command_words.proofs.Walking.{held_value, held_with, name_step, of_form, of_owl}
use Rattle.command_words.proofs.Walking.{of_report, of_sizes, option_reads, owl_step}
use Rattle.command_words.proofs.Walking.{report_word_is_file, rules, second_step, shape}
use Rattle.command_words.proofs.Walking.{sizes_step, stands, stands_first, stream_word_is_file}
use Rattle.command_words.proofs.Walking.{value_step, valued_name, waits}
use Rattle.command_words.proofs.RowsFound.{AreFresh, fresh_later, place_rows, rows_at}

-- ---- one word of an option

name_passes : (n : Valued) (h : Held) → settle_fault (rules Watch) false h ≡ []
    → turn_fault (shape Watch) [] (stands h) (option_word (valued_name n)) ≡ []
name_passes n h passes = rw ((option_reads n).1, (option_reads n).0, by_long n) (rw passes)

value_passes : (n : Valued) (h : Held) (t : Text) → is_file t ≡ true
    → turn_fault (shape Watch) [] (waits (valued_name n) h) t ≡ []
value_passes n h t file = let plain = file_is_plain t file in rw (plain.2, plain.0, plain.1)

sizes_passes : (h : Held) → settle_fault (rules Watch) false h ≡ []
    → has_row (codes "sizes") (rows_at Watch h) ≡ false
    → turn_fault (shape Watch) [] (stands h) (option_word (codes "sizes")) ≡ []
unfolding clap_on_literals
sizes_passes h passes absent = rw (flag_by_long of_sizes) (rw (passes, absent))

owl_passes : (h : Held) → settle_fault (rules Watch) false h ≡ []
    → has_row (codes "owl") (rows_at Watch h) ≡ false
    → turn_fault (shape Watch) [] (stands h) (option_word (codes "owl")) ≡ []
unfolding clap_on_literals
owl_passes h passes absent = rw (flag_by_long of_owl) (rw (passes, absent))

-- what is pending after an option passes
value_settles : (n : Valued) (t : Text) (h : Held)
    → has_row (valued_name n) (rows_at Watch h) ≡ false
    → settle_fault (rules Watch) false (held_value n t h) ≡ []
value_settles n t h absent = rw (by_id n) (rw absent)

settle_passes : (c : Choice) (h : Held) → has_row (name_of c) (rows_at Watch h) ≡ false
    → settle_fault (rules Watch) false (held_with c h) ≡ []
settle_passes (form f) h absent = value_settles of_form (stream_word f) h absent
settle_passes (report_as r) h absent = value_settles of_report (report_word r) h absent
settle_passes sizes h absent = refl
settle_passes owl h absent = refl

-- ---- the options in turn

pub settle_after : (cs : List Choice) (h : Held) → AreOnce cs → AreFresh cs (rows_at Watch h)
    → settle_fault (rules Watch) false h ≡ []
    → settle_fault (rules Watch) false (held_after cs h) ≡ []
settle_after [] h once fresh passes = passes
settle_after (c ∷ cs) h once fresh passes =
    settle_after cs (held_with c h) once.1 (fresh_later c cs h once.0 fresh)
    (settle_passes c h fresh.0)

-- the word passes, and so do those after it
turn_then : (c : CommandName) (w after : Walk) (word : Text) (rest : List Text)
    → turn_fault (shape c) [] w word ≡ [] → walked (rules c) [] w word ≡ after
    → walk_fault (shape c) [] after rest ≡ [] → walk_fault (shape c) [] w (word ∷ rest) ≡ []
unfolding walk_fault
turn_then c w after word rest passes goes later =
    ap (λ (ks : Kinds). or_else ks (walk_fault (shape c) [] (walked (rules c) [] w word) rest))
    passes
    ∙ ap (λ v. walk_fault (shape c) [] v rest) goes ∙ later

-- an option and its value pass, and so do the words after them
value_then : (n : Valued) (t : Text) (h : Held) (rest : List Text) → is_file t ≡ true
    → settle_fault (rules Watch) false h ≡ []
    → walk_fault (shape Watch) [] (stands (held_value n t h)) rest ≡ []
    → walk_fault (shape Watch) [] (stands h) (option_word (valued_name n) ∷ t ∷ rest) ≡ []
value_then n t h rest file passes later =
    turn_then Watch (stands h) (waits (valued_name n) h) (option_word (valued_name n)) (t ∷ rest)
    (name_passes n h passes) (name_step n h)
    (turn_then Watch (waits (valued_name n) h) (stands (held_value n t h)) t rest
    (value_passes n h t file) (value_step n h t file) later)

pub nothing_more : (c : CommandName) (w : Walk) → walk_fault (shape c) [] w [] ≡ []
unfolding walk_fault
nothing_more c w = refl

pub options_pass : (cs : List Choice) (h : Held) → AreOnce cs → AreFresh cs (rows_at Watch h)
    → settle_fault (rules Watch) false h ≡ []
    → walk_fault (shape Watch) [] (stands h) (option_words cs) ≡ []
options_pass [] h once fresh passes = nothing_more Watch (stands h)
options_pass (form f ∷ cs) h once fresh passes =
    value_then of_form (stream_word f) h (option_words cs) (stream_word_is_file f) passes
    (options_pass cs (held_with (form f) h) once.1 (fresh_later (form f) cs h once.0 fresh)
    (settle_passes (form f) h fresh.0))
options_pass (report_as r ∷ cs) h once fresh passes =
    value_then of_report (report_word r) h (option_words cs) (report_word_is_file r) passes
    (options_pass cs (held_with (report_as r) h) once.1
    (fresh_later (report_as r) cs h once.0 fresh) (settle_passes (report_as r) h fresh.0))
options_pass (sizes ∷ cs) h once fresh passes =
    turn_then Watch (stands h) (stands (held_with sizes h)) (option_word (codes "sizes"))
    (option_words cs) (sizes_passes h passes fresh.0) (sizes_step h)
    (options_pass cs (held_with sizes h) once.1 (fresh_later sizes cs h once.0 fresh)
    (settle_passes sizes h fresh.0))
options_pass (owl ∷ cs) h once fresh passes =
    turn_then Watch (stands h) (stands (held_with owl h)) (option_word (codes "owl"))
    (option_words cs) (owl_passes h passes fresh.0) (owl_step h)
    (options_pass cs (held_with owl h) once.1 (fresh_later owl cs h once.0 fresh)
    (settle_passes owl h fresh.0))

-- ---- the two words that stand at their places

first_passes : (c : CommandName) (a : Text) → is_file a ≡ true
    → turn_fault (shape c) [] (walk_from nothing_held) a ≡ []
unfolding rules clap_on_literals
first_passes Watch a file = let plain = file_is_plain a file in rw (plain.2, plain.0, plain.1)
first_passes (OnFiles f) a file = let plain = file_is_plain a file in rw (plain.2, plain.0, plain.1)
first_passes Drill a file = let plain = file_is_plain a file in rw (plain.2, plain.0, plain.1)

second_passes : (c : CommandName) (a b : Text) → is_file b ≡ true
    → turn_fault (shape c) [] (stands_first c a) b ≡ []
unfolding rules clap_on_literals
second_passes Watch a b file = let plain = file_is_plain b file in rw (plain.2, plain.0, plain.1)
second_passes (OnFiles f) a b file =
    let plain = file_is_plain b file in rw (plain.2, plain.0, plain.1)
second_passes Drill a b file = let plain = file_is_plain b file in rw (plain.2, plain.0, plain.1)

pub places_settle : (c : CommandName) (a b : Text)
    → settle_fault (rules c) false (held_places c a b) ≡ []
unfolding rules clap_on_literals
places_settle Watch a b = refl
places_settle (OnFiles f) a b = refl
places_settle Drill a b = refl

pub words_pass : (c : CommandName) (a b : Text) (rest : List Text) → is_file a ≡ true
    → is_file b ≡ true
    → walk_fault (shape c) [] (stands (held_places c a b)) rest ≡ []
    → walk_fault (shape c) [] (walk_from nothing_held) (a ∷ b ∷ rest) ≡ []
words_pass c a b rest first second later =
    turn_then c (walk_from nothing_held) (stands_first c a) a (b ∷ rest) (first_passes c a first)
    (first_step c a first)
    (turn_then c (stands_first c a) (stands (held_places c a b)) b rest (second_passes c a b second)
    (second_step c a b second) later)

-- ---- after the walk

same_either : {X : Type 0} (b : Bool) (x : X) → (if b then x else x) ≡ x
same_either true x = refl
same_either false x = refl

or_true : (b : Bool) → (b || true) ≡ true
or_true true = refl
or_true false = refl

-- the defaults
pub defaults_pass : (c : CommandName) (rows : List Row) → defaults_fault rows (rules c) ≡ []
unfolding rules clap_on_literals
defaults_pass Watch rows = simp (or_true, same_either)
defaults_pass (OnFiles f) rows = simp (or_true, same_either)
defaults_pass Drill rows = simp (or_true, same_either)

-- the rows with the flags' defaults, which are the only ones
abbrev pub with_flags : CommandName → List Row → List Row
with_flags Watch rows =
    with_default (with_default rows (flag_built (codes "owl"))) (flag_built (codes "sizes"))
with_flags (OnFiles f) rows = with_default rows (flag_built (codes "owl"))
with_flags Drill rows = rows

pub finished_is : (c : CommandName) (rows : List Row)
    → fold with_default rows (rules c) ≡ with_flags c rows
unfolding rules clap_on_literals
finished_is Watch rows = simp same_either
finished_is (OnFiles f) rows = simp same_either
finished_is Drill rows = simp same_either

-- both words are there
pub check_passes : (c : CommandName) (a b : Text) (tail : List Row)
    → check_fault (shape c) (place_rows c a b ++ tail) false ≡ []
unfolding rules clap_on_literals
check_passes Watch a b tail = refl
check_passes (OnFiles f) a b tail = refl
check_passes Drill a b tail = refl
