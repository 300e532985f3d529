-- A monitor's replies tell what the definitions tell, whatever history it stands for.
use Rattle.std.proofs.Common.{◌≡◌, ℕ, zero, suc, ◌+◌, Bool, not, Option, None, Some, Result, Ok}
use Rattle.std.proofs.Common.{Err, List, [], ◌∷◌, ◌++◌, inl, inr, length, refl, sym, ◌∙◌, ap}
use Rattle.std.proofs.Common.{subst, arith, append-nil}
use Rattle.std.specs.Prelude.{IfOk}
use Rattle.dl_syntax.specs.declared.facts.Fact.{Fact}
use Rattle.dl_syntax.specs.Names.{IsName}
use Rattle.dl_syntax.specs.Ontology.{Declared, with_individuals}
use Rattle.dl_syntax.specs.Rows.{Relation}
use Rattle.tcq_syntax.specs.Arrivals.{NameFault, fault_of_name, IsFirstFault, IsFaultAt}
use Rattle.tcq_syntax.specs.Arrivals as why
use Rattle.tcq_syntax.specs.Tcq.{Tcq}
use Rattle.declaring.specs.declared.fault.DeclareFault.{DeclareFault}
use Rattle.declaring.specs.Declaring.{told_at}
use Rattle.edge_io.specs.Lines.{Item as StreamLine, text}
use Rattle.snapshot_reader.specs.Said.{Said, nothing, names, says, said}
use Rattle.snapshot_reader.specs.Said.{refused as is_refused}
use Rattle.report_text.specs.declared.item.Cause.{Cause}
use Rattle.report_text.specs.declared.item.Cause.TheVariants.{Contradiction}
use Rattle.report_text.specs.declared.event.Event.{Event}
use Rattle.report_text.specs.declared.event.Event.TheVariants as event
use Rattle.report_text.specs.Names.{AreSpelled}
use Rattle.report_text.specs.Events.{EventHasNames}
use Rattle.monitor_core.specs.declared.accept_fault.AcceptFault.{AcceptFault}
use Rattle.monitor_core.specs.declared.accept_fault.AcceptFault.TheVariants as fault
use Rattle.monitor_core.specs.Keeping.{Monitored}
use Rattle.monitor_core.specs.Setting.{Setting}
use Rattle.monitor_core.specs.Standing.{setting_of, with_came, AreAcceptableTo, Declares}
use Rattle.monitor_core.specs.Standing.{IsRefusedBy, IsConsistentIn, IsLeastIn}
use Rattle.stream_report.specs.Told.{TellsLine}
use Rattle.watch_report.specs.declared.options.Options.{Options}
use Rattle.watch_report.specs.Monitoring.{HasNamed, HasTaken, TellsTaken, MonitorTells, Watched}
use Rattle.watch_report.specs.Monitoring.{said_comes_to, line_comes_to, monitoring, event_bytes}
use Rattle.watch_report.specs.Monitoring.{events_bytes}
use Rattle.watch_report.specs.Outcome.{refused, declares, accepted, name_comes_to}
use Rattle.watch_report.specs.Outcome.{cause_of_name, SaidComesTo}
use Rattle.watch_report.specs.Replies.{IsRefusal, IsRefusedFor, IsNameRefusedFor, Gathers, told_by}
use Rattle.watch_report.specs.Report.{refused_in}

-- ---- snapshots

-- a snapshot was accepted
pub all_accepted : {E : Type 0} (options : Options) (old new : Monitored) (facts : List Fact)
    (number : ℕ) (relations : List Relation) (result : Result Event E)
    → IsConsistentIn (setting_of old) facts → HasTaken old new facts relations →
    IfOk result (λ told. (before : Monitored) (snapshot : List Fact)
    → HasTaken before new snapshot relations
    → TellsTaken options before new number snapshot (told ∷ [])) →
    IfOk result (λ told. MonitorTells options old number (said_comes_to old (says facts))
    (told ∷ []) new)
all_accepted options old new facts number relations (Ok told) consistent taken tells = record {
  outcome = accepted facts;
  comes = (refl, consistent);
  replies = tells old facts taken;
}
all_accepted options old new facts number relations (Err e) consistent taken tells = tells

-- a snapshot was refused for a clash
refused_for : (options : Options) (old new : Monitored) (facts : List Fact) (number : ℕ)
    (reason : AcceptFault) (told : Event)
    → ((clash : ℕ) → reason ≡ fault.Contradiction clash → IsLeastIn (setting_of old) facts clash)
    → new ≡ old → IsRefusal number reason told
    → MonitorTells options old number (said_comes_to old (says facts)) (told ∷ []) new
refused_for options old new facts number (fault.Contradiction clash) told least same refuses =
    record {
      outcome = refused (Contradiction clash);
      comes = least clash refl;
      replies = (ap (λ (e : Event). e ∷ []) refuses, same);
    }
refused_for options old new facts number fault.Memory told least same refuses = absurd refuses

pub all_refused : {E : Type 0} (options : Options) (old new : Monitored) (facts : List Fact)
    (number : ℕ) (reason : AcceptFault) (result : Result Event E)
    → ((clash : ℕ) → reason ≡ fault.Contradiction clash → IsLeastIn (setting_of old) facts clash)
    → new ≡ old → IfOk result (λ told. IsRefusal number reason told) →
    IfOk result (λ told. MonitorTells options old number (said_comes_to old (says facts))
    (told ∷ []) new)
all_refused options old new facts number reason (Ok told) least same refuses =
    refused_for options old new facts number reason told least same refuses
all_refused options old new facts number reason (Err e) least same refuses = refuses

-- ---- names

no_more : (o : Declared) → with_individuals [] o ≡ o
no_more o = ap (λ (is : List (List ℕ)). let p : Declared = record o { individuals = is } in p)
    (append-nil o.individuals)

-- what is at fault with the one name of a list
one_name : (o : Declared) (queries : List Tcq) (closed : Bool) (name : List ℕ)
    (found : Option NameFault) → IsFaultAt o queries closed (name ∷ []) 0 found
    → fault_of_name o queries closed name ≡ found
one_name o queries closed name found at =
    subst (λ (p : Declared). fault_of_name p queries closed name ≡ found) (no_more o) (at name refl)

-- the cause that is told of what is at fault with a name
told_cause : (name : List ℕ) (place : ℕ) (found : NameFault) (cause : Cause)
    → IsNameRefusedFor name (told_at place found) cause → cause ≡ cause_of_name name found
told_cause name place why.Closed cause is = is
told_cause name place why.NameTwice cause is = is
told_cause name place why.TooMany cause is = is
told_cause name place (why.TooLarge total) cause is = is

-- a list of one name was declared
pub has_named : (old new : Monitored) (list : List (List ℕ)) (name : List ℕ) → list ≡ name ∷ []
    → setting_of new ≡ with_came list (setting_of old) → new.strangers ≡ old.strangers
    → new.declared ≡ old.declared + length list → new.state.count ≡ old.state.count
    → Declares old new list → HasNamed old new name
has_named old new list name one setting strangers declared counted stands = record {
  setting = subst (λ (l : List (List ℕ)). setting_of new ≡ with_came l (setting_of old)) one
      setting;
  strangers = strangers;
  declared = subst (λ (l : List (List ℕ)). new.declared ≡ old.declared + length l) one declared;
  counted = counted;
  stands = subst (Declares old new) one stands;
}

module _ (options : Options) (old : Monitored) (name : List ℕ) (number : ℕ) where
  -- the name was declared
  pub named_line : (new : Monitored) (list : List (List ℕ)) → list ≡ name ∷ []
      → AreAcceptableTo old list → HasNamed old new name
      → MonitorTells options old number (said_comes_to old (names name))
      (event.Declared number name ∷ []) new
  named_line new list one acceptable has =
      let none : fault_of_name (setting_of old).ontology (setting_of old).queries
      (not old.strangers) name ≡ None =
      one_name (setting_of old).ontology (setting_of old).queries (not old.strangers) name None
      ((subst (AreAcceptableTo old) one acceptable) 0) in
      record {
        outcome = declares name;
        comes = ap (name_comes_to name) (sym none);
        replies = (refl, has);
      }

  refused_name : (new : Monitored) (found : NameFault) (told : Event)
      → IsFirstFault (setting_of old).ontology (setting_of old).queries (not old.strangers)
      (name ∷ []) 0 found
      → new ≡ old → told ≡ event.Refused number (cause_of_name name found)
      → MonitorTells options old number (said_comes_to old (names name)) (told ∷ []) new
  refused_name new found told first same is =
      let there : fault_of_name (setting_of old).ontology (setting_of old).queries
      (not old.strangers) name ≡ Some found =
      one_name (setting_of old).ontology (setting_of old).queries (not old.strangers) name
      (Some found) first.there in
      record {
        outcome = refused (cause_of_name name found);
        comes = ap (name_comes_to name) (sym there);
        replies = (ap (λ (e : Event). e ∷ []) is, same);
      }

  first_place : (place : ℕ) (found : NameFault)
      → IsFirstFault (setting_of old).ontology (setting_of old).queries (not old.strangers)
      (name ∷ []) place found
      → IsFirstFault (setting_of old).ontology (setting_of old).queries (not old.strangers)
      (name ∷ []) 0 found
  first_place zero found first = first
  first_place (suc place) found first = absurd (omega (arith, first.within))

  told_refused : (new : Monitored) (reason : DeclareFault) (cause : Cause) (told : Event)
      → IsRefusedBy old (name ∷ []) reason → IsNameRefusedFor name reason cause → new ≡ old
      → told ≡ event.Refused number cause
      → MonitorTells options old number (said_comes_to old (names name)) (told ∷ []) new
  told_refused new reason cause told (inl memory) is same tells =
      absurd (subst (λ (t : DeclareFault). IsNameRefusedFor name t cause) memory is)
  told_refused new reason cause told (inr (place, found, first, is_told)) is same tells =
      let causes : cause ≡ cause_of_name name found =
      told_cause name place found cause
      (subst (λ (t : DeclareFault). IsNameRefusedFor name t cause) is_told is) in
      refused_name new found told (first_place place found first) same
      (tells ∙ ap (λ (c : Cause). event.Refused number c) causes)

  -- or refused
  pub refused_line : (new : Monitored) (list : List (List ℕ)) (reason : DeclareFault)
      (cause : Cause) (told : Event) → list ≡ name ∷ [] → IsRefusedBy old list reason
      → IsNameRefusedFor name reason cause → new ≡ old → told ≡ event.Refused number cause
      → MonitorTells options old number (said_comes_to old (names name)) (told ∷ []) new
  refused_line new list reason cause told one refusal is same tells =
      told_refused new reason cause told
      (subst (λ (l : List (List ℕ)). IsRefusedBy old l reason) one refusal) is same tells

-- the names of a declared individual
pub declared_names : (o : Declared) (queries : List Tcq) (number : ℕ) (name : List ℕ)
    → AreSpelled queries → IsName name → EventHasNames o queries (event.Declared number name)
declared_names o queries number name spelled is = record {
  answers = tt;
  queries_spelled = spelled;
  cause_spelled = is;
}

-- ---- texts

refused_comes : (setting : Setting) (closed : Bool) (what : Said) (cause : Cause)
    → IsRefusedFor what cause → SaidComesTo setting closed what (refused cause)
refused_comes setting closed nothing cause is = absurd is
refused_comes setting closed (is_refused c) cause is = ap refused is
refused_comes setting closed (names name) cause is = absurd is
refused_comes setting closed (says facts) cause is = absurd is

module _ (options : Options) (old new : Monitored) (line : List ℕ) (number : ℕ) (o : Declared)
    (same : o ≡ (setting_of old).ontology) where
  -- what is told of what a line says is told of the line
  pub said_so : (what : Said) (told : List Event) → said o options.form line ≡ what
      → MonitorTells options old number (said_comes_to old what) told new
      → MonitorTells options old number (line_comes_to old options.form (text line)) told new
  said_so what told is tells =
      subst (λ (s : Said). MonitorTells options old number (said_comes_to old s) told new)
      (sym (subst (λ (p : Declared). said p options.form line ≡ what) same is)) tells

  -- a text was refused
  pub refused_text : (cause : Cause) (told : Event) → IsRefusedFor (said o options.form line) cause
      → new ≡ old → told ≡ event.Refused number cause
      → MonitorTells options old number (line_comes_to old options.form (text line)) (told ∷ []) new
  refused_text cause told is stays tells = record {
    outcome = refused cause;
    comes = refused_comes (setting_of old) (not old.strangers)
        (said (setting_of old).ontology options.form line) cause
        (subst (λ (p : Declared). IsRefusedFor (said p options.form line) cause) same is);
    replies = (ap (λ (e : Event). e ∷ []) tells, stays);
  }

-- ---- what was gathered

-- what is told of a line, and its bytes
pub gathers_event : (options : Options) (old new : Monitored) (line : StreamLine) (number : ℕ)
    (told : Event) (before now : List ℕ) (refusals : ℕ)
    → MonitorTells options old number (line_comes_to old options.form line) (told ∷ []) new
    → now ≡ before ++ event_bytes options new told → refusals ≡ refused_in (told ∷ [])
    → Gathers options old new line number before now refusals
gathers_event options old new line number told before now refusals tells gathers refuses = record {
  told = Some told;
  tells = tells;
  gathers = gathers ∙ ap (λ (bytes : List ℕ). before ++ bytes)
      (sym (append-nil (event_bytes options new told)));
  refuses = refuses;
}

-- what a watch gathered is its step
pub watched_line : (options : Options) (old new : Monitored) (line : StreamLine)
    (number count more : ℕ) (before now : List ℕ) (state : Watched)
    → state ≡ record { monitor = old; refused = count }
    → Gathers options old new line number before now more
    → TellsLine (monitoring options) state (λ after. after
    ≡ record { monitor = new; refused = count + more }) number line before now
watched_line options old new line number count more before now state same gathers =
    let at : Watched = record { monitor = old; refused = count } in
    let after : Watched = record { monitor = new; refused = count + more } in
    subst (λ (s : Watched). TellsLine (monitoring options) s (λ (later : Watched). later ≡ after)
    number line before now) (sym same) (record {
      told = events_bytes options new (told_by gathers.told);
      after = after;
      tells = (
        told_by gathers.told,
        (gathers.tells, ap (λ (n : ℕ). count + n) gathers.refuses),
        refl,
      );
      stands = refl;
      gathers = gathers.gathers;
    })
