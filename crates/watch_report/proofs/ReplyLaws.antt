-- What the monitor's replies are by its names, and by those of its history.
use Rattle.std.proofs.Common.{◌≡◌, ℕ, suc, List, [], ◌∷◌, ◌++◌, length, refl, sym, ap, subst}
use Rattle.std.specs.declared.option.Option.{Option}
use Rattle.std.specs.List.{All}
use Rattle.std.proofs.lemmas.List.Elements.{All-nil, All-cons, All-weaker}
use Rattle.dl_syntax.specs.Ontology.{Declared}
use Rattle.dl_syntax.specs.Rows.{Relation}
use Rattle.tcq_syntax.specs.Answers.{IsRow}
use Rattle.tcq_syntax.specs.Histories.{History}
use Rattle.tcq_syntax.specs.Tcq.{Tcq}
use Rattle.report_text.specs.declared.item.Cause.{Cause}
use Rattle.report_text.specs.declared.event.Event.{Event}
use Rattle.report_text.specs.declared.event.Event.TheVariants as event
use Rattle.report_text.specs.Names.{IsNamed, AreNamed, AreSpelled, IsSpelledCause}
use Rattle.report_text.specs.Events.{HasSizes, AreAnswered, EventHasNames, event_text}
use Rattle.monitor_core.specs.Answering.{AreRowsOf, AreAllAnswers}
use Rattle.monitor_core.specs.Keeping.{Monitored}
use Rattle.monitor_core.specs.Setting.{Setting}
use Rattle.monitor_core.specs.Standing.{setting_of, Stands, count_of}
use Rattle.watch_report.specs.declared.options.Options.{Options}
use Rattle.watch_report.specs.Report.{bytes_of_event}
use Rattle.watch_report.specs.Task.{Task, task_of, own_setting, ontology_after}
use Rattle.watch_report.specs.Told.{TellsAccepted, AreAskedSizes}
use Rattle.watch_report.proofs.OwnSettings.{own_is}

-- what is read by the names of a monitor is read by those of its history
module _ (m : Monitored) (history : History) (stands : Stands m history) where
  abbrev pub known : Declared
  known = ontology_after (own_setting m) history

  pub read_by : (P : Declared → Type 0) → P (setting_of m).ontology → P known
  read_by P has = subst P (sym (own_is m history stands)) has

-- what an accepted snapshot comes to, by the names of the monitor
pub tells_accepted : (options : Options) (m : Monitored) (after : History) (line : ℕ)
    (relations : List Relation) (kept : Option (List ℕ)) (told : List Event) → Stands m after
    → AreRowsOf (setting_of m).ontology (setting_of m).queries relations
    → AreAllAnswers (setting_of m).ontology (setting_of m).queries after relations
    → AreAskedSizes options.sizes (own_setting m) after kept
    → told ≡ event.Accepted line (count_of after) relations kept ∷ []
    → TellsAccepted (task_of options m) after line told
tells_accepted options m after line relations kept told stands shaped exact sizes is = record {
  relations = relations;
  answered = record {
    shaped = read_by m after stands (λ o. AreRowsOf o (setting_of m).queries relations) shaped;
    exact = read_by m after stands (λ o. AreAllAnswers o (setting_of m).queries after relations)
        exact;
  };
  kept = kept;
  sizes = sizes;
  is = is;
}

-- the task stays where the setting does
pub same_task : (options : Options) (old new : Monitored) → own_setting new ≡ own_setting old
    → task_of options new ≡ task_of options old
same_task options old new same =
    ap (λ (s : Setting). let t : Task = record { setting = s; options = options } in t) same

all_named : (ontology : Declared) (queries : List Tcq) (relations : List Relation)
    → AreRowsOf ontology queries relations
    → All (λ (relation : Relation). AreNamed ontology relation.rows) relations
all_named ontology [] [] are = All-nil (λ (relation : Relation). AreNamed ontology relation.rows)
all_named ontology [] (relation ∷ relations) are = absurd are
all_named ontology (query ∷ queries) [] are = absurd are
all_named ontology (query ∷ queries) (relation ∷ relations) are =
    All-cons (λ (r : Relation). AreNamed ontology r.rows) relation relations
    (All-weaker (IsRow (length ontology.individuals) query.vars) (IsNamed ontology) (λ row is.
    is.1) relation.rows are.1)
    (all_named ontology queries relations are.2)

same_length : (ontology : Declared) (queries : List Tcq) (relations : List Relation)
    → AreRowsOf ontology queries relations → length relations ≡ length queries
same_length ontology [] [] are = refl
same_length ontology [] (relation ∷ relations) are = absurd are
same_length ontology (query ∷ queries) [] are = absurd are
same_length ontology (query ∷ queries) (relation ∷ relations) are =
    ap suc (same_length ontology queries relations are.2)

-- the answers of queries are of individuals that have names
pub answered_all : (ontology : Declared) (queries : List Tcq) (kept : Option (List ℕ))
    (relations told : List Relation) → told ≡ relations → AreRowsOf ontology queries relations
    → HasSizes queries kept → AreAnswered ontology queries kept told
answered_all ontology queries kept relations told same are sizes =
    subst (AreAnswered ontology queries kept) (sym same) (record {
      one_each =
          same_length ontology queries relations are;
      sizes = sizes;
      named =
          all_named ontology queries relations are;
    })

-- a refusal for a cause that is spelled
pub refused_names : (ontology : Declared) (queries : List Tcq) (number : ℕ) (cause : Cause)
    (told : Event) → told ≡ event.Refused number cause → AreSpelled queries → IsSpelledCause cause
    → EventHasNames ontology queries told
refused_names ontology queries number cause told same spelled is =
    subst (EventHasNames ontology queries) (sym same) (record {
      answers = tt;
      queries_spelled =
          spelled;
      cause_spelled = is;
    })

-- what is told of an event is gathered, by the names of the monitor
pub gathered_event : (options : Options) (m : Monitored) (history : History) (told : Event)
    (before now : List ℕ) → Stands m history
    → now ≡ before ++ event_text options.report (setting_of m).ontology (setting_of m).queries told
    → now ≡ before ++ bytes_of_event (task_of options m) history told
gathered_event options m history told before now stands is =
    read_by m history stands (λ o. now
    ≡ before ++ event_text options.report o (setting_of m).queries told) is
