-- What a monitor watches, without the individuals that came with the stream.
use Rattle.std.proofs.Common.{◌≡◌, ℕ, ◌+◌, ◌-◌, Bool, List, [], ◌++◌, length, take}
use Rattle.std.proofs.Common.{refl, sym, ◌∙◌, ap, ap₂, subst, arith, length-append, append-nil}
use Rattle.std.proofs.lemmas.List.{take-append-drop, take-append-le}
use Rattle.dl_syntax.specs.Ontology.{Declared}
use Rattle.tcq_syntax.specs.Histories.{History, empty_history}
use Rattle.tcq_syntax.specs.Tcq.{Tcq}
use Rattle.monitor_core.specs.Answering.{own_count}
use Rattle.monitor_core.specs.Keeping.{Monitored}
use Rattle.monitor_core.specs.Setting.{Setting}
use Rattle.monitor_core.specs.Standing.{setting_of, Stands, with_came}
use Rattle.watch_report.specs.declared.options.Options.{Options}
use Rattle.watch_report.specs.Task.{Task, ontology_after, without_last, own_setting, task_of}

-- the same ontology but for these individuals
abbrev with_these : Declared → List (List ℕ) → Declared
with_these o names = record o { individuals = names }

pub same_setting : (o p : Declared) (queries later : List Tcq) → o ≡ p → queries ≡ later
    → record { ontology = o; queries = queries } ≡ (let s : Setting =
    record { ontology = p; queries = later } in s)
same_setting o p queries later first second =
    ap (λ (x : Declared). let s : Setting = record { ontology = x; queries = queries } in s) first
    ∙ ap (λ (x : List Tcq). let s : Setting = record { ontology = p; queries = x } in s) second

-- with the names of the history it is what the monitor watches
pub own_is : (m : Monitored) (history : History) → Stands m history
    → ontology_after (own_setting m) history ≡ (setting_of m).ontology
unfolding setting_of
own_is m history stands =
    let o = m.plan.ontology in
    let known = o.individuals in
    let few = length known - m.declared in
    let parts : take few known ++ history.names ≡ known =
    ap (λ (came : List (List ℕ)). take few known ++ came) stands.names
    ∙ take-append-drop few known in
    ap (with_these o) parts

-- the count of the individuals that didn't come with the history
pub own_counted : (m : Monitored) (history : History) → Stands m history
    → own_count (setting_of m).ontology history ≡ length (own_setting m).ontology.individuals
own_counted m history stands =
    let own = (own_setting m).ontology.individuals in
    let whole : own ++ history.names ≡ (setting_of m).ontology.individuals =
    ap (λ (o : Declared). o.individuals) (own_is m history stands) in
    let count = ap (λ (names : List (List ℕ)). length names) whole in
    omega (arith, count, length-append own history.names)

-- where nothing came it is all that the monitor watches
pub own_opened : (m : Monitored) (closed : Bool) → Stands m (empty_history closed)
    → own_setting m ≡ setting_of m
own_opened m closed stands =
    let own = (own_setting m).ontology in
    let whole : with_these own (own.individuals ++ []) ≡ (setting_of m).ontology =
    own_is m (empty_history closed) stands in
    same_setting own (setting_of m).ontology (setting_of m).queries (setting_of m).queries
    (ap (with_these own) (sym (append-nil own.individuals)) ∙ whole) refl

-- so it watches, or rehearses, a stream from the beginning by this
pub own_manner : (m : Monitored) (options : Options) (closed : Bool)
    (P : Task → Type 0) → Stands m (empty_history closed) → P (task_of options m)
    → P (record { setting = setting_of m; options = options })
own_manner m options closed P stands has =
    subst (λ (s : Setting). P (record { setting = s; options = options }))
    (own_opened m closed stands) has

-- it stays where nothing comes
pub own_stays : (old new : Monitored) → setting_of new ≡ setting_of old
    → new.declared ≡ old.declared → own_setting new ≡ own_setting old
own_stays old new same came =
    ap₂ (λ (s : Setting) (count : ℕ). let t : Setting = record {
      ontology = without_last s.ontology count;
      queries = s.queries;
    } in t) same came

fewer : (known names : List (List ℕ)) (declared : ℕ)
    → take (length (known ++ names) - (declared + length names)) (known ++ names)
    ≡ take (length known - declared) known
fewer known names declared =
    let count : length (known ++ names) - (declared + length names) ≡ length known - declared =
    omega (arith, length-append known names) in
    ap (λ (n : ℕ). take n (known ++ names)) count
    ∙ take-append-le (length known - declared) known names (omega arith)

-- and where names come
pub own_declared : (old new : Monitored) (names : List (List ℕ))
    → setting_of new ≡ with_came names (setting_of old)
    → new.declared ≡ old.declared + length names → own_setting new ≡ own_setting old
own_declared old new names grown came =
    let o = (setting_of old).ontology in
    ap₂ (λ (s : Setting) (count : ℕ). let t : Setting = record {
      ontology = without_last s.ontology count;
      queries = s.queries;
    } in t) grown came
    ∙ same_setting (without_last (with_came names (setting_of old)).ontology
    (old.declared + length names)) (without_last o old.declared) (setting_of old).queries
    (setting_of old).queries
    (ap (with_these o) (fewer o.individuals names old.declared)) refl
