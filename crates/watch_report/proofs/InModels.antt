-- The accepted snapshots are consistent, so what is told of them holds in all of their models.
use Rattle.std.proofs.Common.{◌≡◌, ℕ, ◌+◌, List, [], ◌∷◌, length, refl, sym, subst}
use Rattle.std.proofs.Common.{arith, length-append}
use Rattle.std.specs.Prelude.{Option, None, Some, false}
use Rattle.std.specs.List.{All}
use Rattle.std.proofs.lemmas.List.Elements.{All-nil, All-cons, All-push}
use Rattle.dl_syntax.specs.declared.facts.Fact.{Fact}
use Rattle.dl_syntax.specs.Chase.{IsConsistent}
use Rattle.dl_syntax.specs.Facts.{HasNoNull}
use Rattle.dl_syntax.specs.Ontology.{Declared}
use Rattle.dl_syntax.specs.Rows.{Relation}
use Rattle.tcq_syntax.specs.Answers.{AreAnswers}
use Rattle.tcq_syntax.specs.Arrivals.{NameFault, fault_after}
use Rattle.tcq_syntax.specs.Histories.{History, empty_history, with_snapshot}
use Rattle.tcq_syntax.specs.Tcq.{Tcq}
use Rattle.edge_io.specs.Lines.{Item as StreamLine, text, too_long}
use Rattle.forms.specs.declared.StreamForm.{StreamForm}
use Rattle.snapshot_reader.specs.Said.{Said, nothing, names, says, said}
use Rattle.snapshot_reader.specs.Said.{refused as is_refused}
use Rattle.snapshot_reader.proofs.SaidFacts.{said_are_distinct}
use Rattle.report_text.specs.declared.event.Event.{Event}
use Rattle.report_text.specs.declared.event.Event.TheVariants.{Accepted, Declared as Declares}
use Rattle.report_text.specs.declared.event.Event.TheVariants.{Refused}
use Rattle.monitor_core.specs.Answering.{AreAllAnswers, own_count}
use Rattle.monitor_core.specs.Setting.{Setting}
use Rattle.monitor_core.specs.Standing.{count_of}
use Rattle.stream_report.specs.Told as streams
use Rattle.models_over_time.specs.Readings.{AreConsistent}
use Rattle.models_over_time.proofs.InModels.{answers_are_common}
use Rattle.watch_report.specs.Outcome.{Outcome, skip, refused, declares, accepted, SaidHas}
use Rattle.watch_report.specs.Outcome.{HasOutcome, name_comes_to}
use Rattle.watch_report.specs.Report.{Standing, start, watches}
use Rattle.watch_report.specs.Task.{Task, ontology_after}
use Rattle.watch_report.specs.Told.{TellsAccepted, TellsLine, Replies}
use Rattle.watch_report.specs.CommonAnswers.{AreAllCommon, TellsCommon, AnswersAreCommon}

module _ (o : Declared) where
  abbrev AreGood : History → Type 0
  AreGood history = AreConsistent o.inclusions o.clashes history

  abbrev IsGood : List Fact → Type 0
  IsGood snapshot = All HasNoNull snapshot × IsConsistent o.inclusions o.clashes snapshot

  -- ---- the snapshots

  none_good : AreGood (empty_history false)
  none_good = record {
    plain = All-nil (All HasNoNull);
    consistent = All-nil (IsConsistent o.inclusions o.clashes);
  }

  one_more : (history : History) (snapshot : List Fact) → AreGood history → IsGood snapshot
      → AreGood (with_snapshot snapshot history)
  one_more history snapshot good is = record {
    plain = All-push (All HasNoNull) history.snapshots snapshot good.plain is.0;
    consistent = All-push (IsConsistent o.inclusions o.clashes) history.snapshots snapshot
        good.consistent is.1;
  }

module _ (setting : Setting) where
  abbrev own : Declared
  own = setting.ontology

  not_accepted : (name : List ℕ) (fault : Option NameFault) (snapshot : List Fact)
      → accepted snapshot ≡ name_comes_to name fault → ⊥
  not_accepted name None snapshot is = absurd cc
  not_accepted name (Some fault) snapshot is = absurd cc

  said_good : (history : History) (form : StreamForm) (line : List ℕ) (what : Said)
      (snapshot : List Fact) → said (ontology_after setting history) form line ≡ what
      → SaidHas setting history what (accepted snapshot) → IsGood own snapshot
  said_good history form line nothing snapshot is has = absurd cc
  said_good history form line (is_refused why) snapshot is has = absurd cc
  said_good history form line (names name) snapshot is has =
      absurd (not_accepted name (fault_after setting.ontology setting.queries history name) snapshot
      has)
  said_good history form line (says facts) snapshot is has = (
    subst (All HasNoNull) (sym has.0)
        (said_are_distinct (ontology_after setting history) form line facts is).without_nulls,
    subst (IsConsistent own.inclusions own.clashes) (sym has.0) has.1,
  )

  accepted_good : (history : History) (form : StreamForm) (line : StreamLine) (snapshot : List Fact)
      → HasOutcome setting history form line (accepted snapshot) → IsGood own snapshot
  accepted_good history form too_long snapshot has = absurd cc
  accepted_good history form (text line) snapshot has =
      said_good history form line (said (ontology_after setting history) form line) snapshot refl
      has

  -- ---- the answers

  -- without the names that came, the individuals are the ontology's own
  own_individuals : (history : History)
      → own_count (ontology_after setting history) history ≡ length own.individuals
  own_individuals history =
      omega (arith, length-append own.individuals history.names)

  all_common : (queries : List Tcq) (history : History) (relations : List Relation)
      → AreGood own history
      → AreAllAnswers (ontology_after setting history) queries history relations
      → AreAllCommon own queries history relations
  all_common [] history [] good are = tt
  all_common [] history (relation ∷ relations) good are = absurd are
  all_common (query ∷ queries) history [] good are = absurd are
  all_common (query ∷ queries) history (relation ∷ relations) good are = (
    (answers_are_common own.inclusions own.clashes (length own.individuals) query history
        relation.rows good).0
        (subst (λ (n : ℕ). AreAnswers own.inclusions n query history relation.rows)
        (own_individuals history) are.0),
    all_common queries history relations good are.1,
  )

module _ (task : Task) where
  abbrev ontology : Declared
  ontology = task.setting.ontology

  -- after a line the snapshots are as good as before
  replied_good : (history after : History) (number : ℕ) (line : StreamLine) (outcome : Outcome)
      (told : List Event) → AreGood ontology history
      → HasOutcome task.setting history task.options.form line outcome
      → Replies task history number outcome told after → AreGood ontology after
  replied_good history after number line skip told good has replies =
      subst (AreGood ontology) (sym replies.1) good
  replied_good history after number line (refused cause) told good has replies =
      subst (AreGood ontology) (sym replies.1) good
  replied_good history after number line (declares name) told good has replies =
      subst (AreGood ontology) (sym replies.1)
      (record { plain = good.plain; consistent = good.consistent })
  replied_good history after number line (accepted snapshot) told good has replies =
      subst (AreGood ontology) (sym replies.0)
      (one_more ontology history snapshot good
      (accepted_good task.setting history task.options.form line snapshot has))

  line_good : (history after : History) (number : ℕ) (line : StreamLine) (told : List Event)
      → AreGood ontology history → TellsLine task history number line told after
      → AreGood ontology after
  line_good history after number line told good t =
      replied_good history after number line t.outcome told good t.has t.replies

  lines_good : (lines : List StreamLine) (number : ℕ) (before after : Standing) (wrote : List ℕ)
      → AreGood ontology before.history
      → streams.Told (watches task) lines number before wrote after
      → AreGood ontology after.history
  lines_good [] number before after wrote good told =
      subst (λ (s : Standing). AreGood ontology s.history) (sym told.1) good
  lines_good (line ∷ lines) number before after wrote good told =
      lines_good lines (number + 1) told.2 after told.1
      (line_good before.history told.2.history number line told.3.0 good told.3.1.0) told.4

  -- what is told of a line
  accepted_common : (after : History) (number : ℕ) (told : List Event) → AreGood ontology after
      → TellsAccepted task after number told → All (TellsCommon task.setting after) told
  accepted_common after number told good t =
      subst (All (TellsCommon task.setting after)) (sym t.is)
      (All-cons (TellsCommon task.setting after)
      (Accepted number (count_of after) t.relations t.kept) []
      (all_common task.setting task.setting.queries after t.relations good t.answered.exact)
      (All-nil (TellsCommon task.setting after)))

  replied_common : (history after : History) (number : ℕ) (outcome : Outcome) (told : List Event)
      → AreGood ontology after → Replies task history number outcome told after
      → All (TellsCommon task.setting after) told
  replied_common history after number skip told good replies =
      subst (All (TellsCommon task.setting after)) (sym replies.0)
      (All-nil (TellsCommon task.setting after))
  replied_common history after number (refused cause) told good replies =
      subst (All (TellsCommon task.setting after)) (sym replies.0)
      (All-cons (TellsCommon task.setting after) (Refused number cause) [] tt
      (All-nil (TellsCommon task.setting after)))
  replied_common history after number (declares name) told good replies =
      subst (All (TellsCommon task.setting after)) (sym replies.0)
      (All-cons (TellsCommon task.setting after) (Declares number name) [] tt
      (All-nil (TellsCommon task.setting after)))
  replied_common history after number (accepted snapshot) told good replies =
      accepted_common after number told good replies.1

pub common_answers : AnswersAreCommon
common_answers task lines wrote before line told after tells goes =
    let before_good = lines_good task lines 1 start before wrote
    (none_good task.setting.ontology) tells in
    let good = line_good task before.history after.history (1 + length lines) line told before_good
    goes.0 in (
      good,
      replied_common task before.history after.history (1 + length lines) goes.0.outcome told good
          goes.0.replies,
    )
