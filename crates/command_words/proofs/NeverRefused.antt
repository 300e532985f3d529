-- What clap's own test takes has no fault by its exact function, definition by definition.
use Rattle.std.proofs.Common.{◌≡◌, ◌∙◌, ◌≤◌, ◌+◌, ◌&&◌, ◌||◌, ℕ, zero, suc, Bool, true, false}
use Rattle.std.proofs.Common.{not, refl, sym, ap, List, [], ◌∷◌, length, drop, min, Option, Some}
use Rattle.std.proofs.Common.{None}
use Rattle.std.proofs.Common.{arith, find, is_some, true≢false, codes}
use Rattle.std.specs.Prelude.{◌==◌, encode_utf8, if◌then◌else◌, nat_le, nat_lt, slice_get}
use Rattle.std.specs.List.{list_all, list_any}
use Rattle.std.specs.Option.{option_map_or}
use Rattle.std.specs.Str.{bytes_eq, chars}
use Rattle.std.proofs.lemmas.Bool.{and_left, and_right, eq-eqb, eqb-true}
use Rattle.std.proofs.lemmas.Bool.{le-ltb, leb-true, ne_eqb}
use Rattle.clap.specs.Lexer.{long_of, short_of}
use Rattle.clap.specs.Values.{is_request, refused_kind}
use Rattle.clap.specs.Matches.{count_text}
use Rattle.clap.specs.Facts.{explicit_source, parser_of_value, unwrap_or_range}
use Rattle.clap.specs.Walk.{Held, Names, Row, Rule, Step, Text, Waiting, Walk, action_of}
use Rattle.clap.specs.Walk.{answers_to, arg_by_id, arg_by_index, arg_by_long, arg_by_short}
use Rattle.clap.specs.Walk.{attached_value, count_of, finished, has_row, is_empty, is_pending}
use Rattle.clap.specs.Walk.{most_values, next, nothing_held, reacted, settled}
use Rattle.clap.specs.Walk.{subcommand, subcommand_met, takes_several, takes_values, trailing}
use Rattle.clap.specs.Walk.{value, values_or_missing, walk, walk_from, walked, with_default}
use Rattle.clap.specs.Walk.{word_met}
use Rattle.clap.specs.Simple.{App, Shape, argument_words, built, entered, is_simple, label_of}
use Rattle.clap.specs.Simple.{names_of}
use Rattle.clap.specs.Kinds.{Kinds, or_else, range_kinds, request_kinds, value_kinds}
use Rattle.clap.specs.Takes.{action_passes, built_takes, bundle_passes, bundle_step_passes}
use Rattle.clap.specs.Takes.{count_passes, default_passes, entered_passes, flag_word_passes}
use Rattle.clap.specs.Takes.{flags_pass, is_given, is_valid, level_passes, long_passes}
use Rattle.clap.specs.Takes.{option_passes, other_passes, positional_passes, react_passes}
use Rattle.clap.specs.Takes.{set_passes, settle_passes, short_passes, step_passes, takes}
use Rattle.clap.specs.Takes.{turn_passes, use_passes, value_passes, values_pass, walk_passes}
use Rattle.clap.specs.Takes.{word_passes}
use Rattle.clap.specs.Faults.{action_fault, bundle_fault, bundle_step_fault}
use Rattle.clap.specs.Faults.{check_fault, count_fault, default_fault, defaults_fault}
use Rattle.clap.specs.Faults.{entered_fault, fault_of, flag_word_fault, flags_fault, level_fault}
use Rattle.clap.specs.Faults.{long_fault, option_fault, other_fault, positional_fault, react_fault}
use Rattle.clap.specs.Faults.{repeat_fault, set_fault, settle_fault, short_fault, step_fault}
use Rattle.clap.specs.Faults.{stray_fault, turn_fault, use_fault, values_fault, walk_fault}
use Rattle.clap.specs.Faults.{word_fault}
use Rattle.clap.specs.declared.builder.action.ArgAction.{ArgAction}
use Rattle.clap.specs.declared.builder.action.ArgAction.TheVariants as action
use Rattle.clap.specs.declared.error.kind.ErrorKind.TheVariants as kind
use Rattle.clap.proofs.WalkLemmas.{both}
use Rattle.command_words.specs.declared.names.CommandName.{CommandName}
use Rattle.command_words.specs.Commands.{app_of_command, are_taken, faults_in}

or_none : (a b : Kinds) → a ≡ [] → b ≡ [] → or_else a b ≡ []
or_none a b first second = ap (λ x. or_else x b) first ∙ second

-- ---- one use of an argument

value_fine : (a : Rule) (v : Text) → value_passes a v ≡ true
    → value_kinds a.ignore_case (parser_of_value a.parser) v ≡ []
value_fine a v e =
    ap (λ b. if b then [] else refused_kind (parser_of_value a.parser) ∷ []) e

values_fine : (a : Rule) (vs : List Text) → values_pass a vs ≡ true → values_fault a vs ≡ []
values_fine a [] e = refl
values_fine a (v ∷ vs) e =
    let b = both (value_passes a v) (values_pass a vs) e in
    or_none _ _ (value_fine a v b.0) (values_fine a vs b.1)

count_fine : (a : Rule) (vs : List Text) (rows : List Row) → count_passes a vs rows ≡ true
    → count_fault a vs rows ≡ []
count_fine a [] rows e = value_fine a (count_text (min (count_of a.id rows + 1) 255)) e
count_fine a (v ∷ vs) rows e = values_fine a (v ∷ vs) e

repeat_fine : (again : Bool) (id : Text) (rows : List Row) → (not (has_row id rows) || again) ≡ true
    → repeat_fault again id rows ≡ []
repeat_fine again id rows e = go (has_row id rows) again e
  where
    go : (has again : Bool) → (not has || again) ≡ true
        → (if has && not again then kind.ArgumentConflict ∷ [] else []) ≡ []
    go true true e = refl
    go true false e = absurd (true≢false (sym e))
    go false again e = refl

set_fine : (again : Bool) (a : Rule) (values : List Text) (rows : List Row)
    → set_passes again a values rows ≡ true → set_fault again a values rows ≡ []
set_fine again a values rows e =
    let b = both (not (has_row a.id rows) || again) (values_pass a values) e in
    or_none _ _ (repeat_fine again a.id rows b.0) (values_fine a values b.1)

action_fine : (x : ArgAction) (again : Bool) (a : Rule) (values : List Text) (rows : List Row)
    → action_passes x again a values rows ≡ true → action_fault x again a values rows ≡ []
action_fine action.Set again a values rows e = set_fine again a values rows e
action_fine action.SetTrue again a values rows e = set_fine again a values rows e
action_fine action.SetFalse again a values rows e = set_fine again a values rows e
action_fine action.Append again a values rows e = values_fine a values e
action_fine action.Count again a values rows e = count_fine a values rows e
action_fine action.Help again a values rows e = absurd (true≢false (sym e))
action_fine action.HelpShort again a values rows e = absurd (true≢false (sym e))
action_fine action.HelpLong again a values rows e = absurd (true≢false (sym e))
action_fine action.Version again a values rows e = absurd (true≢false (sym e))

some_wanted : (least n : ℕ) → least ≤ n → (nat_lt 0 least && (n == 0)) ≡ false
some_wanted least zero low = and_left (nat_lt 0 least) (zero == 0) (le-ltb 0 least low)
some_wanted least (suc n) low =
    and_right (nat_lt 0 least) (suc n == 0) (ne_eqb (suc n) 0 (λ e. omega (arith, e)))

range_fine : (least most n : ℕ) → least ≤ n → n ≤ most → range_kinds least most n ≡ []
range_fine least most n low high =
    rw (some_wanted least n low) (go (least == most) (eqb-true least most))
  where
    go : (b : Bool) → (b ≡ true → least ≡ most)
        → (if b then (if least == n then [] else kind.WrongNumberOfValues ∷ [])
        else (if nat_lt n least then kind.TooFewValues ∷ []
        else (if nat_lt most n then kind.TooManyValues ∷ [] else []))) ≡ []
    go true same = rw (eq-eqb least n (omega (arith, same refl))) refl
    go false same = rw (le-ltb n least low, le-ltb most n high) refl

use_fine : (again : Bool) (a : Rule) (values : List Text) (rows : List Row)
    → use_passes again a values rows ≡ true → use_fault again a values rows ≡ []
use_fine again a values rows e =
    let least = (unwrap_or_range a.range).start_inclusive in
    let raw = values_or_missing a values in
    let p = both (nat_le least (length values)) _ e in
    let q = both (nat_le (length values) (most_values a))
    (action_passes (action_of a) again a raw rows) p.1 in
    or_none _ _ (range_fine least (most_values a) (length values)
    (leb-true least (length values) p.0) (leb-true (length values) (most_values a) q.0))
    (action_fine (action_of a) again a raw rows q.1)

-- ---- the words of a flag or an option

settle_fine : (c : List Rule) (again : Bool) (h : Held) → settle_passes c again h ≡ true
    → settle_fault c again h ≡ []
settle_fine c again h e = pending h.pending e
  where
    found : (a : Option Rule) (values : List Text)
        → option_map_or (λ (a : Rule). use_passes again a values h.rows) a true ≡ true
        → option_map_or (λ (a : Rule). use_fault again a values h.rows) a [] ≡ []
    found None values e = refl
    found (Some a) values e = use_fine again a values h.rows e

    pending : (p : Option (Text × List Text))
        → option_map_or (λ (p : Text × List Text). option_map_or (λ (a : Rule).
        use_passes again a p.1 h.rows) (arg_by_id c p.0) true) p true ≡ true
        → option_map_or (λ (p : Text × List Text). option_map_or (λ (a : Rule).
        use_fault again a p.1 h.rows) (arg_by_id c p.0) []) p [] ≡ []
    pending None e = refl
    pending (Some p) e = found (arg_by_id c p.0) p.1 e

react_fine : (c : List Rule) (again : Bool) (a : Rule) (values : List Text) (h : Held)
    → react_passes c again a values h ≡ true → react_fault c again a values h ≡ []
react_fine c again a values h e =
    let b = both (settle_passes c again h) (use_passes again a values (settled c h).rows) e in
    or_none _ _ (settle_fine c again h b.0) (use_fine again a values (settled c h).rows b.1)

option_fine : (c : List Rule) (again : Bool) (a : Rule) (v : Option Text) (h : Held)
    → option_passes c again a v h ≡ true → option_fault c again a v h ≡ []
option_fine c again a (Some v) h e = react_fine c again a (v ∷ []) h e
option_fine c again a None h e = settle_fine c again h e

long_fine : (c : List Rule) (again : Bool) (a : Option Rule) (v : Option Text) (h : Held)
    → long_passes c again a v h ≡ true → long_fault c again a v h ≡ []
long_fine c again None v h e = absurd (true≢false (sym e))
long_fine c again (Some a) v h e = go (takes_values a) v e
  where
    go : (b : Bool) (v : Option Text) → (if b then option_passes c again a v h
        else (not (is_some v) && react_passes c again a [] h)) ≡ true
        → (if b then option_fault c again a v h
        else (if is_some v then kind.TooManyValues ∷ [] else react_fault c again a [] h)) ≡ []
    go true v e = option_fine c again a v h e
    go false None e = react_fine c again a [] h e
    go false (Some v) e = absurd (true≢false (sym e))

short_fine : (c : List Rule) (again : Bool) (a : Option Rule) (rest : Text) (h : Held)
    (passes : Held → Bool) (faults : Held → Kinds)
    → ((h : Held) → passes h ≡ true → faults h ≡ [])
    → short_passes c again a rest h passes ≡ true → short_fault c again a rest h faults ≡ []
short_fine c again None rest h passes faults each e = absurd (true≢false (sym e))
short_fine c again (Some a) rest h passes faults each e = go (takes_values a) e
  where
    go : (b : Bool) → (if b then option_passes c again a (attached_value rest) h
        else (react_passes c again a [] h && passes (reacted c a [] h))) ≡ true
        → (if b then option_fault c again a (attached_value rest) h
        else or_else (react_fault c again a [] h) (faults (reacted c a [] h))) ≡ []
    go true e = option_fine c again a (attached_value rest) h e
    go false e =
        let b = both (react_passes c again a [] h) (passes (reacted c a [] h)) e in
        or_none _ _ (react_fine c again a [] h b.0) (each (reacted c a [] h) b.1)

flags_fine : (c : List Rule) (again : Bool) (k : ℕ) (flags : Text) (skip : ℕ) (h : Held)
    → flags_pass c again k flags skip h ≡ true → flags_fault c again k flags skip h ≡ []
unfolding flags_pass flags_fault
flags_fine c again zero flags skip h e = refl
flags_fine c again (suc k) flags skip h e =
    step (slice_get (chars flags) 0) skip (flags_fine c again k) e
  where
    step : (x : Option ℕ) (skip : ℕ)
        → ((rest : Text) (less : ℕ) (h : Held) → flags_pass c again k rest less h ≡ true
        → flags_fault c again k rest less h ≡ [])
        → bundle_step_passes c again x flags skip h (flags_pass c again k) ≡ true
        → bundle_step_fault c again x flags skip h (flags_fault c again k) ≡ []
    step None skip later e = refl
    step (Some x) zero later e =
        let rest = drop (length (encode_utf8 x)) flags in
        short_fine c again (arg_by_short c x) rest h (flags_pass c again k rest 0)
        (flags_fault c again k rest 0) (later rest 0) e
    step (Some x) (suc skip) later e = later (drop (length (encode_utf8 x)) flags) skip h e

flag_word_fine : (c : List Rule) (again : Bool) (p : Option (Text × Option Text)) (word : Text)
    (h : Held) → flag_word_passes c again p word h ≡ true → flag_word_fault c again p word h ≡ []
flag_word_fine c again (Some p) word h e = long_fine c again (arg_by_long c p.0) p.1 h e
flag_word_fine c again None word h e = go (short_of word) e
  where
    go : (flags : Option Text)
        → option_map_or (λ (flags : Text). bundle_passes c again flags h) flags true ≡ true
        → option_map_or (λ (flags : Text). bundle_fault c again flags h) flags [] ≡ []
    go None e = refl
    go (Some flags) e =
        flags_fine c again (length flags) flags h.skip (record h { skip = 0 }) e

-- ---- the walk

other_fine : (s : Shape) (name : Option Text) (word : Text) (h : Held)
    → other_passes s name word h ≡ true → other_fault s name word h ≡ []
other_fine s (Some name) word h e = go (bytes_eq name (codes "help")) s.disable_help_subcommand e
  where
    go : (b d : Bool) → (not b || d) ≡ true
        → (if b && not d then kind.DisplayHelp ∷ kind.InvalidSubcommand ∷ [] else []) ≡ []
    go true true e = refl
    go true false e = absurd (true≢false (sym e))
    go false d e = refl
other_fine s None word h e = go (bytes_eq word (45 ∷ 45 ∷ [])) e
  where
    go : (b : Bool)
        → (b || flag_word_passes s.rules s.args_override_self (long_of word) word h) ≡ true
        → (if b then [] else flag_word_fault s.rules s.args_override_self (long_of word) word h)
        ≡ []
    go true e = refl
    go false e = flag_word_fine s.rules s.args_override_self (long_of word) word h e

word_fine : (s : Shape) (names : Names) (trails : Bool) (waiting : Waiting) (word : Text) (h : Held)
    → word_passes s names trails waiting word h ≡ true
    → word_fault s names trails waiting word h ≡ []
word_fine s names true waiting word h e = refl
word_fine s names false waiting word h e =
    other_fine s (subcommand_met names waiting word) word h e

positional_fine : (c : List Rule) (again : Bool) (a : Rule) (h : Held)
    → positional_passes c again a h ≡ true → positional_fault c again a h ≡ []
positional_fine c again a h e = go (is_pending a h.pending && takes_several a) e
  where
    go : (b : Bool) → (b || settle_passes c again h) ≡ true
        → (if b then [] else settle_fault c again h) ≡ []
    go true e = refl
    go false e = settle_fine c again h e

step_fine : (s : Shape) (position : ℕ) (h : Held) (step : Step)
    → step_passes s position h step ≡ true → step_fault s position h step ≡ []
step_fine s position h value e = go (arg_by_index s.rules position) e
  where
    go : (a : Option Rule)
        → option_map_or (λ (a : Rule). positional_passes s.rules s.args_override_self a h) a false
        ≡ true
        → option_map_or (λ (a : Rule). positional_fault s.rules s.args_override_self a h) a
        (stray_fault s) ≡ []
    go None e = absurd (true≢false (sym e))
    go (Some a) e = positional_fine s.rules s.args_override_self a h e
step_fine s position h (next w) e = refl
step_fine s position h (trailing n) e = refl
step_fine s position h (subcommand name) e = refl

turn_fine : (s : Shape) (names : Names) (w : Walk) (word : Text)
    → turn_passes s names w word ≡ true → turn_fault s names w word ≡ []
turn_fine s names w word e = go (is_some w.stopped) e
  where
    met : Held × Step
    met = word_met s.rules names w.is_trailing w.waiting w.position word w.held

    go : (b : Bool) → (b || (word_passes s names w.is_trailing w.waiting word w.held
        && step_passes s w.position met.0 met.1)) ≡ true
        → (if b then [] else or_else (word_fault s names w.is_trailing w.waiting word w.held)
        (step_fault s w.position met.0 met.1)) ≡ []
    go true e = refl
    go false e =
        let b = both (word_passes s names w.is_trailing w.waiting word w.held)
        (step_passes s w.position met.0 met.1) e in
        or_none _ _ (word_fine s names w.is_trailing w.waiting word w.held b.0)
        (step_fine s w.position met.0 met.1 b.1)

walk_fine : (s : Shape) (names : Names) (w : Walk) (words : List Text)
    → walk_passes s names w words ≡ true → walk_fault s names w words ≡ []
unfolding walk_passes walk_fault
walk_fine s names w [] e = refl
walk_fine s names w (word ∷ rest) e =
    let b = both (turn_passes s names w word)
    (walk_passes s names (walked s.rules names w word) rest) e in
    or_none _ _ (turn_fine s names w word b.0)
    (walk_fine s names (walked s.rules names w word) rest b.1)

-- ---- after the walk

request_fine : (x : ArgAction) → not (is_request x) ≡ true → request_kinds x ≡ []
request_fine action.Set e = refl
request_fine action.SetTrue e = refl
request_fine action.SetFalse e = refl
request_fine action.Append e = refl
request_fine action.Count e = refl
request_fine action.Help e = absurd (true≢false (sym e))
request_fine action.HelpShort e = absurd (true≢false (sym e))
request_fine action.HelpLong e = absurd (true≢false (sym e))
request_fine action.Version e = absurd (true≢false (sym e))

default_fine : (rows : List Row) (a : Rule) → default_passes a ≡ true → default_fault rows a ≡ []
default_fine rows a e = go (has_row a.id rows) (is_empty a.defaults) e
  where
    go : (has none : Bool)
        → (none || (not (is_request (action_of a)) && values_pass a a.defaults)) ≡ true
        → (if has || none then []
        else or_else (request_kinds (action_of a)) (values_fault a a.defaults)) ≡ []
    go true none e = refl
    go false true e = refl
    go false false e =
        let b = both (not (is_request (action_of a))) (values_pass a a.defaults) e in
        or_none _ _ (request_fine (action_of a) b.0) (values_fine a a.defaults b.1)

defaults_fine : (rows : List Row) (rules : List Rule) → list_all default_passes rules ≡ true
    → defaults_fault rows rules ≡ []
unfolding defaults_fault
defaults_fine rows [] e = refl
defaults_fine rows (a ∷ rest) e =
    let b = both (default_passes a) (list_all default_passes rest) e in
    or_none _ _ (default_fine rows a b.0) (defaults_fine (with_default rows a) rest b.1)

none_missing : (rows : List Row) (rules : List Rule)
    → list_all (λ (a : Rule). not a.required || is_given a.id rows) rules ≡ true
    → list_any (λ (a : Rule). a.required && not (is_given a.id rows)) rules ≡ false
none_missing rows [] e = refl
none_missing rows (a ∷ rest) e =
    let b = both (not a.required || is_given a.id rows)
    (list_all (λ (a : Rule). not a.required || is_given a.id rows) rest) e in
    go a.required (is_given a.id rows) b.0 (none_missing rows rest b.1)
  where
    go : (r g : Bool) → (not r || g) ≡ true
        → list_any (λ (a : Rule). a.required && not (is_given a.id rows)) rest ≡ false
        → ((r && not g) || list_any (λ (a : Rule). a.required && not (is_given a.id rows)) rest)
        ≡ false
    go true true e later = later
    go true false e later = absurd (true≢false (sym e))
    go false g e later = later

help_fine : (b h a : Bool) → (not b || (h || a)) ≡ true → (not h && (b && not a)) ≡ false
help_fine true true a e = refl
help_fine true false true e = refl
help_fine true false false e = absurd (true≢false (sym e))
help_fine false true a e = refl
help_fine false false a e = refl

subcommand_fine : (b h : Bool) → (not b || h) ≡ true → (not h && b) ≡ false
subcommand_fine true true e = refl
subcommand_fine true false e = absurd (true≢false (sym e))
subcommand_fine false true e = refl
subcommand_fine false false e = refl

required_fine : (negates : Bool) (all any : Bool) → (all ≡ true → any ≡ false)
    → (negates || all) ≡ true → (not negates && any) ≡ false
required_fine true all any each e = refl
required_fine false all any each e = each e

check_fine : (s : Shape) (rows : List Row) (has : Bool) → is_valid s rows has ≡ true
    → check_fault s rows has ≡ []
check_fine s rows has e =
    let given : Bool = list_any (λ (r : Row). explicit_source r.source) rows in
    let all : Bool = list_all (λ (a : Rule). not a.required || is_given a.id rows) s.rules in
    let any : Bool = list_any (λ (a : Rule). a.required && not (is_given a.id rows)) s.rules in
    let p = both (not s.arg_required_else_help || (has || given)) _ e in
    let q = both (not s.subcommand_required || has) _ p.1 in
    let r = both (list_all (λ (a : Rule). a.is_free) s.rules) _ q.1 in
    rw (
      help_fine s.arg_required_else_help has given p.0,
      subcommand_fine s.subcommand_required has q.0,
      required_fine (s.subcommand_negates_reqs && has) all any (none_missing rows s.rules) r.1,
    )
    refl

level_fine : (s : Shape) (names : Names) (h : Held) (words : List Text) (has : Bool) (below : Kinds)
    → below ≡ [] → level_passes s names h words has ≡ true
    → level_fault s names h words has below ≡ []
level_fine s names h words has below none e =
    let end = (walk s.rules names h words).held in
    let p = both (walk_passes s names (walk_from h) words) _ e in
    let q = both (settle_passes s.rules s.args_override_self end) _ p.1 in
    let r = both (list_all default_passes s.rules) _ q.1 in
    or_none _ _ (walk_fine s names (walk_from h) words p.0)
    (or_none _ _ none
    (or_none _ _ (settle_fine s.rules s.args_override_self end q.0)
    (or_none _ _ (defaults_fine (settled s.rules end).rows s.rules r.0)
    (check_fine s (finished s.rules end) has r.1))))

entered_fine : (a : App) (stop : Option (Text × List Text)) → entered_passes a stop ≡ true
    → entered_fault a stop ≡ []
entered_fine a None e = refl
entered_fine a (Some p) e = go (find (λ (s : Shape). answers_to p.0 (label_of s)) a.subs) e
  where
    go : (s : Option Shape)
        → option_map_or (λ (s : Shape). level_passes s [] nothing_held p.1 false) s true ≡ true
        → option_map_or (λ (s : Shape). level_fault s [] nothing_held p.1 false []) s [] ≡ []
    go None e = refl
    go (Some s) e = level_fine s [] nothing_held p.1 false [] refl e

-- what a command takes has no fault
pub taken_is_fine : (a : App) (words : List Text) → takes a words ≡ true → fault_of a words ≡ []
taken_is_fine a words e =
    let all = argument_words a words in
    let stop = (walk (built a).top.rules (names_of (built a)) nothing_held all).stopped in
    let has : Bool = is_some (entered (built a) stop) in
    let p = both (is_simple a) (built_takes (built a) nothing_held all) e in
    let q = both (entered_passes (built a) stop)
    (level_passes (built a).top (names_of (built a)) nothing_held all has) p.1 in
    level_fine (built a).top (names_of (built a)) nothing_held all has
    (entered_fault (built a) stop) (entered_fine (built a) stop q.0) q.1

pub no_faults_if_taken : (c : CommandName) (words : List Text) → are_taken c words ≡ true
    → faults_in c words ≡ []
unfolding are_taken faults_in
no_faults_if_taken c words e = taken_is_fine (app_of_command c) words e
