-- What a monitor tells is what is told after each history that it stands for.
use Rattle.std.proofs.Common.{◌≡◌, ℕ, ◌+◌, Bool, List, [], ◌∷◌, refl, sym, ◌∙◌, ap, subst}
use Rattle.std.specs.List.{flat_map}
use Rattle.dl_syntax.specs.declared.facts.Fact.{Fact}
use Rattle.dl_syntax.specs.Ontology.{Declared}
use Rattle.tcq_syntax.specs.Histories.{History, with_name, with_snapshot}
use Rattle.edge_io.specs.Lines.{Item as StreamLine}
use Rattle.forms.specs.declared.StreamForm.{StreamForm}
use Rattle.report_text.specs.Events.{event_text}
use Rattle.report_text.specs.declared.event.Event.{Event}
use Rattle.report_text.specs.declared.event.Event.TheVariants.{Accepted, End}
use Rattle.monitor_core.specs.Answering.{AreRowsOf, AreAllAnswers}
use Rattle.monitor_core.specs.Keeping.{Monitored}
use Rattle.monitor_core.specs.Setting.{Setting}
use Rattle.monitor_core.specs.Standing.{setting_of, Stands, Accepts, count_of}
use Rattle.stream_report.specs.Told as streams
use Rattle.stream_report.proofs.Refinements.{Refines, streamed_too}
use Rattle.watch_report.specs.declared.options.Options.{Options}
use Rattle.watch_report.specs.Monitoring.{TellsTaken, MonitorReplies, MonitorTells, Watched}
use Rattle.watch_report.specs.Monitoring.{line_comes_to, event_bytes, events_bytes, monitoring}
use Rattle.watch_report.specs.Monitoring.{monitors, last_event, watched_from}
use Rattle.watch_report.specs.Outcome.{Outcome, skip, refused, declares, accepted, ComesTo}
use Rattle.watch_report.specs.Outcome.{HasOutcome, setting_after}
use Rattle.watch_report.specs.Report.{Standing, bytes_of, bytes_of_event, refused_in, watching}
use Rattle.watch_report.specs.Replies.{Gathers, told_by}
use Rattle.watch_report.specs.Report.{end_event, standing_at}
use Rattle.watch_report.specs.ReportLaws.{MonitorsTell}
use Rattle.watch_report.specs.Task.{Task, task_of, own_setting, ontology_after}
use Rattle.watch_report.specs.Told.{TellsLine, TellsAccepted}
use Rattle.watch_report.proofs.OwnSettings.{own_is, own_stays, own_declared, same_setting}
use Rattle.watch_report.proofs.ReplyLaws.{same_task, tells_accepted}

-- a monitor that stood for the history told this of the line as it is told after the history, and
-- stands for the one behind the line
pub record TellsAfter (options : Options) (old new : Monitored) (line : StreamLine) (number : ℕ)
    (told : List Event) (history : History) : Type 0 where
  pub after : History
  pub stands : Stands new after
  pub tells : TellsLine (task_of options old) history number line told after

-- what a monitor watches, without the individuals that came, stays
own_kept : (options : Options) (old new : Monitored) (number : ℕ) (told : List Event)
    (outcome : Outcome) → MonitorReplies options old number outcome told new
    → own_setting new ≡ own_setting old
own_kept options old new number told skip replies = ap own_setting replies.1
own_kept options old new number told (refused cause) replies = ap own_setting replies.1
own_kept options old new number told (declares name) replies =
    own_declared old new (name ∷ []) replies.1.setting replies.1.declared
own_kept options old new number told (accepted facts) replies =
    own_stays old new replies.taken.setting replies.taken.declared

module _ (options : Options) (old : Monitored) (history : History) (before : Stands old history)
  where
    -- what is known after the history is what the monitor knows
    known_is : setting_after (own_setting old) history ≡ setting_of old
    known_is =
        same_setting (ontology_after (own_setting old) history) (setting_of old).ontology
        (setting_of old).queries (setting_of old).queries (own_is old history before) refl

    has_outcome : (form : StreamForm) (line : StreamLine) (outcome : Outcome)
        → line_comes_to old form line outcome
        → HasOutcome (own_setting old) history form line outcome
    has_outcome form line outcome comes =
        subst (λ (s : Setting). ComesTo s history.is_closed form line outcome) (sym known_is)
        (subst (λ (closed : Bool). ComesTo (setting_of old) closed form line outcome)
        (sym before.closed) comes)

    module _ (new : Monitored) (line : StreamLine) (number : ℕ) (told : List Event) where
      -- an accepted snapshot is told so
      taken_after : (facts : List Fact) → TellsTaken options old new number facts told
          → HasOutcome (own_setting old) history options.form line (accepted facts)
          → TellsAfter options old new line number told history
      taken_after facts tells has =
          let accepts : Accepts old new facts tells.relations history =
          tells.taken.takes history before in
          let later : History = with_snapshot facts history in
          let setting = tells.taken.setting in
          let rows : AreRowsOf (setting_of new).ontology (setting_of new).queries tells.relations =
          subst (λ (s : Setting). AreRowsOf s.ontology s.queries tells.relations) (sym setting)
          tells.taken.rows in
          let answers : AreAllAnswers (setting_of new).ontology (setting_of new).queries later
          tells.relations =
          subst (λ (s : Setting). AreAllAnswers s.ontology s.queries later tells.relations)
          (sym setting) accepts.answers in
          let is : told ≡ Accepted number (count_of later) tells.relations tells.kept ∷ [] =
          tells.is ∙ ap (λ (n : ℕ). Accepted number n tells.relations tells.kept ∷ [])
          accepts.stands.counted in
          record {
            after = later;
            stands = accepts.stands;
            tells = record {
              outcome = accepted facts;
              has = has;
              replies = (
                refl,
                subst (λ (t : Task). TellsAccepted t later number told)
                    (same_task options old new (own_stays old new setting tells.taken.declared))
                    (tells_accepted options new later number tells.relations tells.kept told
                    accepts.stands rows answers (tells.sizes later accepts.stands) is),
              );
            };
          }

      replies_after : (outcome : Outcome) → MonitorReplies options old number outcome told new
          → HasOutcome (own_setting old) history options.form line outcome
          → TellsAfter options old new line number told history
      replies_after skip replies has = record {
        after = history;
        stands = subst (λ (m : Monitored). Stands m history) (sym replies.1) before;
        tells = record { outcome = skip; has = has; replies = (replies.0, refl) };
      }
      replies_after (refused cause) replies has = record {
        after = history;
        stands = subst (λ (m : Monitored). Stands m history) (sym replies.1) before;
        tells = record { outcome = refused cause; has = has; replies = (replies.0, refl) };
      }
      replies_after (declares name) replies has = record {
        after = with_name name history;
        stands = replies.1.stands history before;
        tells = record { outcome = declares name; has = has; replies = (replies.0, refl) };
      }
      replies_after (accepted facts) replies has = taken_after facts replies has

      pub tells_after : MonitorTells options old number (line_comes_to old options.form line) told
          new → TellsAfter options old new line number told history
      tells_after tells =
          replies_after tells.outcome tells.replies
          (has_outcome options.form line tells.outcome tells.comes)

-- what is told of events by the names of a monitor is told by those of its history
pub bytes_after : (options : Options) (m : Monitored) (history : History) (told : List Event)
    → Stands m history → bytes_of (task_of options m) history told ≡ events_bytes options m told
bytes_after options m history told stands =
    ap (λ (o : Declared). flat_map (event_text options.report o (setting_of m).queries) told)
    (own_is m history stands)

pub event_bytes_after : (options : Options) (m : Monitored) (history : History) (told : Event)
    → Stands m history
    → bytes_of_event (task_of options m) history told ≡ event_bytes options m told
event_bytes_after options m history told stands =
    ap (λ (o : Declared). event_text options.report o (setting_of m).queries told)
    (own_is m history stands)

-- the monitor stands for the history, as many lines were refused, and the task is the monitor's
pub record IsWatchOf (task : Task) (at : Watched) (standing : Standing) : Type 0 where
  pub stands : Stands at.monitor standing.history
  pub refused : at.refused ≡ standing.refused
  pub same : task_of task.options at.monitor ≡ task

module _ (task : Task) where
  watches_on : (at : Watched) (standing : Standing) (number : ℕ) (line : StreamLine)
      (told : List ℕ) (after : Watched) → IsWatchOf task at standing
      → monitors task.options at number line told after
      → (later : Standing) × (watching task).step standing number line told later
      × IsWatchOf task after later
  watches_on at standing number line told after is (events, (tells, refused_then), bytes) =
      let options = task.options in
      let one : TellsAfter options at.monitor after.monitor line number events standing.history =
      tells_after options at.monitor standing.history is.stands after.monitor line number events
      tells in
      let own = own_kept options at.monitor after.monitor number events tells.outcome tells.replies
      in
      let same : task_of options after.monitor ≡ task =
      same_task options at.monitor after.monitor own ∙ is.same in
      let later : Standing = record {
        history = one.after;
        refused = standing.refused + refused_in events;
      } in
      let written : told ≡ bytes_of task one.after events =
      bytes ∙ sym (bytes_after options after.monitor one.after events one.stands)
      ∙ ap (λ (t : Task). bytes_of t one.after events) same in
      let line_is : TellsLine task standing.history number line events one.after =
      subst (λ (t : Task). TellsLine t standing.history number line events one.after) is.same
      one.tells in (
        later,
        (events, (line_is, refl), written),
        record {
          stands = one.stands;
          refused = refused_then ∙ ap (λ (n : ℕ). n + refused_in events) is.refused;
          same = same;
        },
      )

  ends_so : (at : Watched) (standing : Standing) (last : List ℕ) → IsWatchOf task at standing
      → (monitoring task.options).closes at last → (watching task).closes standing last
  ends_so at standing last is closes =
      let options = task.options in
      let end : last_event at ≡ end_event standing =
      ap (λ (n : ℕ). End n at.refused) is.stands.counted
      ∙ ap (λ (n : ℕ). End (count_of standing.history) n) is.refused in
      closes
      ∙ ap (event_bytes options at.monitor) end
      ∙ sym (event_bytes_after options at.monitor standing.history (end_event standing) is.stands)
      ∙ ap (λ (t : Task). bytes_of_event t standing.history (end_event standing)) is.same

  -- what a watch by a monitor tells, a watch from its history tells
  pub watch_refines : Refines (IsWatchOf task) (monitoring task.options) (watching task)
  watch_refines = record { opening = refl; step = watches_on; closes = ends_so }

-- what is gathered of a line is gathered so after the monitor's history
pub gathered_after : (options : Options) (old new : Monitored) (line : StreamLine)
    (number more : ℕ) (before now : List ℕ) (state : Standing) → Stands old state.history
    → Gathers options old new line number before now more
    → streams.TellsLine (watching (task_of options old)) state (λ after. Stands new after.history
    × (after.refused ≡ state.refused + more)) number line before now
gathered_after options old new line number more before now state stands gathers =
    let events = told_by gathers.told in
    let bytes = events_bytes options new events in
    let at : Watched = record { monitor = old; refused = state.refused } in
    let then : Watched = record { monitor = new; refused = state.refused + more } in
    let step = watches_on (task_of options old) at state number line bytes then
    (record { stands = stands; refused = refl; same = refl })
    (events, (gathers.tells, ap (λ (n : ℕ). state.refused + n) gathers.refuses), refl) in
    record {
      told = bytes;
      after = step.0;
      tells = step.1;
      stands = (step.2.stands, sym step.2.refused);
      gathers = gathers.gathers;
    }

pub monitors_tell : MonitorsTell
monitors_tell options ending first last history before now stands run =
    let task : Task = task_of options first in
    streamed_too (IsWatchOf task) (monitoring options) (watching task) (watch_refines task)
    (watched_from first) (standing_at history)
    (record { stands = stands; refused = refl; same = refl })
    (λ (after : Watched). after.monitor ≡ last) (λ (after : Standing). Stands last after.history)
    (λ (at : Watched) (standing : Standing) is same. subst (λ (m : Monitored).
    Stands m standing.history) same is.stands)
    ending before now run
