-- The history after a line is one of the ontology and the queries.
use Rattle.std.proofs.Common.{◌≡◌, ℕ, ◌+◌, [], ◌∷◌, Option, None, Some, List, length, refl}
use Rattle.std.proofs.Common.{sym, ap, subst, length-append}
use Rattle.std.specs.List.{All}
use Rattle.std.proofs.lemmas.List.Elements.{All-weaker}
use Rattle.dl_syntax.specs.declared.facts.Element.{Element}
use Rattle.dl_syntax.specs.declared.facts.Element.TheVariants.{Ind, Null}
use Rattle.dl_syntax.specs.declared.facts.Fact.{Fact}
use Rattle.dl_syntax.specs.declared.facts.Fact.TheVariants as fact
use Rattle.dl_syntax.specs.Declaring.{IsDeclaredFact}
use Rattle.dl_syntax.specs.Names.{IsDeclarable}
use Rattle.dl_syntax.specs.Ontology.{Declared}
use Rattle.tcq_syntax.specs.Accepted.{IsAccepted, IsHistory}
use Rattle.tcq_syntax.specs.Arrivals.{NameFault, fault_after}
use Rattle.tcq_syntax.specs.Histories.{History, individuals_of, with_snapshot, with_name}
use Rattle.tcq_syntax.specs.Histories.{IsElementBelow, HasElementsBelow}
use Rattle.tcq_syntax.proofs.Arrivals.{no_fault_may_follow}
use Rattle.tcq_syntax.proofs.Continuing.{snapshot_continues, name_continues}
use Rattle.edge_io.specs.Lines.{Item as StreamLine, text, too_long}
use Rattle.forms.specs.declared.StreamForm.{StreamForm}
use Rattle.stream_report.specs.Told.{Told}
use Rattle.snapshot_reader.specs.Laws.{IsDeclaredIndividual, IsDeclared}
use Rattle.snapshot_reader.specs.Said.{Said, nothing, names, says, said}
use Rattle.snapshot_reader.specs.Said.{refused as is_refused}
use Rattle.snapshot_reader.proofs.SaidFacts.{said_are_declared, said_are_distinct}
use Rattle.snapshot_reader.proofs.RefusedNames.{declares_names}
use Rattle.report_text.specs.declared.event.Event.{Event}
use Rattle.consistency.specs.Least.{IsConsistentUnder}
use Rattle.monitor_core.specs.Setting.{Setting}
use Rattle.watch_report.specs.Outcome.{Outcome, skip, refused, declares, accepted, SaidHas}
use Rattle.watch_report.specs.Outcome.{HasOutcome, name_comes_to}
use Rattle.watch_report.specs.Task.{Task, ontology_after}
use Rattle.watch_report.specs.Told.{Replies}
use Rattle.watch_report.specs.Report.{Standing, watches}
use Rattle.watch_report.specs.ReportLaws.{HistoriesGoOn, HistoriesAreTold}

-- ---- a snapshot

element_below : (o : Declared) (e : Element) → IsDeclaredIndividual o e
    → IsElementBelow (length o.individuals) e
element_below o (Ind i) is = is
element_below o (Null n) is = absurd is

fact_declared : (o : Declared) (f : Fact) → IsDeclared o f
    → IsDeclaredFact (length o.concepts) (length o.roles) f
fact_declared o (fact.Concept c x) is = is.0
fact_declared o (fact.Role p x y) is = is.0

fact_below : (o : Declared) (f : Fact) → IsDeclared o f → HasElementsBelow (length o.individuals) f
fact_below o (fact.Concept c x) is = element_below o x is.1
fact_below o (fact.Role p x y) is = (element_below o x is.1, element_below o y is.2)

module _ (setting : Setting) (history : History) (form : StreamForm) (line : List ℕ) where
  abbrev o : Declared
  o = setting.ontology

  abbrev known : Declared
  known = ontology_after setting history

  counted : length known.individuals ≡ individuals_of (length o.individuals) history
  counted = length-append o.individuals history.names

  taken : (facts : List Fact) → said known form line ≡ says facts → IsConsistentUnder known facts
      → IsAccepted o (individuals_of (length o.individuals) history) facts
  taken facts is consistent =
      let are = said_are_declared known form line facts is in
      record {
        snapshot = said_are_distinct known form line facts is;
        declared = All-weaker (IsDeclared known)
            (IsDeclaredFact (length o.concepts) (length o.roles)) (fact_declared known) facts are;
        known = subst (λ (count : ℕ). All (HasElementsBelow count) facts) counted
            (All-weaker (IsDeclared known) (HasElementsBelow (length known.individuals))
            (fact_below known) facts are);
        consistent = consistent;
      }

  -- ---- what a text comes to

  never_accepted : (name : List ℕ) (fault : Option NameFault) (facts : List Fact)
      → accepted facts ≡ name_comes_to name fault → ⊥
  never_accepted name None facts is = absurd cc
  never_accepted name (Some fault) facts is = absurd cc

  accepted_says : (s : Said) (facts : List Fact) → SaidHas setting history s (accepted facts)
      → (s ≡ says facts) × IsConsistentUnder known facts
  accepted_says nothing facts is = absurd cc
  accepted_says (is_refused cause) facts is = absurd cc
  accepted_says (names name) facts is =
      absurd (never_accepted name (fault_after o setting.queries history name) facts is)
  accepted_says (says snapshot) facts is = (
    ap says (sym is.0),
    subst (IsConsistentUnder known) (sym is.0) is.1,
  )

  declared_once : (name other : List ℕ) (fault : Option NameFault)
      → declares name ≡ name_comes_to other fault → (name ≡ other) × (fault ≡ None)
  declared_once name other None is = (cc, refl)
  declared_once name other (Some fault) is = absurd cc

  declares_says : (s : Said) (name : List ℕ) → SaidHas setting history s (declares name)
      → (s ≡ names name) × (fault_after o setting.queries history name ≡ None)
  declares_says nothing name is = absurd cc
  declares_says (is_refused cause) name is = absurd cc
  declares_says (names other) name is =
      let same = declared_once name other (fault_after o setting.queries history other) is in (
        ap names (sym same.0),
        subst (λ (n : List ℕ). fault_after o setting.queries history n ≡ None) (sym same.0) same.1,
      )
  declares_says (says snapshot) name is = absurd is

  module _ (before : IsHistory o setting.queries history) where
    snapshot_goes_on : (facts : List Fact)
        → SaidHas setting history (said known form line) (accepted facts)
        → IsHistory o setting.queries (with_snapshot facts history)
    snapshot_goes_on facts has =
        let says_it = accepted_says (said known form line) facts has in
        snapshot_continues o setting.queries history facts before
        (taken facts says_it.0 says_it.1)

    name_goes_on : (name : List ℕ)
        → SaidHas setting history (said known form line) (declares name)
        → IsHistory o setting.queries (with_name name history)
    name_goes_on name has =
        let says_it = declares_says (said known form line) name has in
        let declarable : IsDeclarable name = declares_names known form line name says_it.0 in
        let may = (no_fault_may_follow o setting.queries history name declarable).0 says_it.1 in
        name_continues o setting.queries history name before may.0 may.1

-- ---- a line

goes_on : (task : Task) (history : History) (number : ℕ) (line : StreamLine) (told : List Event)
    (after : History) (outcome : Outcome)
    → IsHistory task.setting.ontology task.setting.queries history
    → HasOutcome task.setting history task.options.form line outcome
    → Replies task history number outcome told after
    → IsHistory task.setting.ontology task.setting.queries after
goes_on task history number line told after skip before has replies =
    subst (IsHistory task.setting.ontology task.setting.queries) (sym replies.1) before
goes_on task history number line told after (refused cause) before has replies =
    subst (IsHistory task.setting.ontology task.setting.queries) (sym replies.1) before
goes_on task history number too_long told after (declares name) before has replies = absurd cc
goes_on task history number (text line) told after (declares name) before has replies =
    subst (IsHistory task.setting.ontology task.setting.queries) (sym replies.1)
    (name_goes_on task.setting history task.options.form line before name has)
goes_on task history number too_long told after (accepted facts) before has replies = absurd cc
goes_on task history number (text line) told after (accepted facts) before has replies =
    subst (IsHistory task.setting.ontology task.setting.queries) (sym replies.0)
    (snapshot_goes_on task.setting history task.options.form line before facts has)

pub histories_go_on : HistoriesGoOn
histories_go_on task history number line told after before tells =
    goes_on task history number line told after tells.outcome before tells.has tells.replies

-- ---- lines

module _ (task : Task) where
  abbrev Goes : Standing → Type 0
  Goes at = IsHistory task.setting.ontology task.setting.queries at.history

  told_goes_on : (lines : List StreamLine) (number : ℕ) (before after : Standing) (told : List ℕ)
      → Goes before → Told (watches task) lines number before told after → Goes after
  told_goes_on [] number before after told is p = subst Goes (sym p.1) is
  told_goes_on (line ∷ lines) number before after told is (first, rest, next, step, later, _) =
      told_goes_on lines (number + 1) next after rest
      (histories_go_on task before.history number line step.0 next.history is step.1.0) later

pub histories_are_told : HistoriesAreTold
histories_are_told task lines number before after told is tells =
    told_goes_on task lines number before after told is tells
