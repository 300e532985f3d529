-- What a monitor tells of the lines of a stream, whatever history it stands for, or none.
use Rattle.std.specs.Prelude.{◌≡◌, ℕ, ◌+◌, Bool, true, false, not, Option, None, Some, List, []}
use Rattle.std.specs.Prelude.{◌∷◌, length}
use Rattle.std.specs.List.{flat_map}
use Rattle.dl_syntax.specs.declared.facts.Fact.{Fact}
use Rattle.dl_syntax.specs.Rows.{Relation}
use Rattle.tcq_syntax.specs.Histories.{History}
use Rattle.tcq_syntax.specs.Tcq.{Tcq}
use Rattle.edge_io.specs.Lines.{Item as StreamLine}
use Rattle.forms.specs.declared.StreamForm.{StreamForm}
use Rattle.snapshot_reader.specs.Said.{Said}
use Rattle.report_text.specs.declared.event.Event.{Event}
use Rattle.report_text.specs.declared.event.Event.TheVariants.{Accepted, Declared, Refused, End}
use Rattle.report_text.specs.Events.{event_text}
use Rattle.monitor_core.specs.Advancing.{one_more}
use Rattle.monitor_core.specs.Keeping.{Monitored}
use Rattle.monitor_core.specs.Standing.{setting_of, with_came, AreRowsIn, Declares, Stands, Takes}
use Rattle.stream_report.specs.Told.{Step, Manner}
use Rattle.watch_report.specs.declared.options.Options.{Options}
use Rattle.watch_report.specs.Outcome.{Outcome, skip, refused, declares, accepted, ComesTo}
use Rattle.watch_report.specs.Outcome.{SaidComesTo}
use Rattle.watch_report.specs.Report.{heading_of, refused_in}
use Rattle.watch_report.specs.Task.{own_setting}
use Rattle.watch_report.specs.Told.{AreAskedSizes}

-- ---- what becomes of a monitor

-- the new one has the name as its last individual: it is no snapshot, and whatever history the old
-- one stood for, the new one stands for it with the name
pub record HasNamed (old new : Monitored) (name : List ℕ) : Type 0 where
  pub setting : setting_of new ≡ with_came (name ∷ []) (setting_of old)
  pub strangers : new.strangers ≡ old.strangers
  pub declared : new.declared ≡ old.declared + 1
  pub counted : new.state.count ≡ old.state.count
  pub stands : Declares old new (name ∷ [])

-- the new one counts one more snapshot, and answered by relations over the declared individuals:
-- whatever history the old one stood for, they are the answers after it with the snapshot, and the
-- new one stands for that
pub record HasTaken (old new : Monitored) (snapshot : List Fact) (relations : List Relation)
    : Type 0 where
  pub setting : setting_of new ≡ setting_of old
  pub strangers : new.strangers ≡ old.strangers
  pub declared : new.declared ≡ old.declared
  pub counted : new.state.count ≡ one_more old.state.count
  pub rows : AreRowsIn (setting_of old) relations
  pub takes : Takes old new snapshot relations

-- ---- what is told

-- the sizes are there where they are asked for, one for each query
abbrev pub AreThere : Bool → List Tcq → Option (List ℕ) → Type 0
AreThere are_asked queries None = are_asked ≡ false
AreThere are_asked queries (Some sizes) = (are_asked ≡ true) × (length sizes ≡ length queries)

-- the event tells that the line with this number was accepted, how many snapshots the monitor
-- counts then, and what it answered; and how much is kept after each history that it stands for
pub record TellsTaken (options : Options) (old new : Monitored) (line : ℕ) (snapshot : List Fact)
    (told : List Event) : Type 0 where
  pub relations : List Relation
  pub taken : HasTaken old new snapshot relations
  pub kept : Option (List ℕ)
  pub there : AreThere options.sizes (setting_of new).queries kept
  pub sizes : (history : History) → Stands new history
      → AreAskedSizes options.sizes (own_setting new) history kept
  pub is : told ≡ Accepted line new.state.count relations kept ∷ []

-- what is told of a line with this number and outcome, and what the monitor is then
abbrev pub MonitorReplies : Options → Monitored → ℕ → Outcome → List Event → Monitored → Type 0
MonitorReplies options old line skip told new = (told ≡ []) × (new ≡ old)
MonitorReplies options old line (refused cause) told new =
    (told ≡ Refused line cause ∷ []) × (new ≡ old)
MonitorReplies options old line (declares name) told new =
    (told ≡ Declared line name ∷ []) × HasNamed old new name
MonitorReplies options old line (accepted snapshot) told new =
    TellsTaken options old new line snapshot told

-- what is told of a line with this number whose outcome this holds of
pub record MonitorTells (options : Options) (old : Monitored) (line : ℕ)
    (comes_to : Outcome → Type 0) (told : List Event) (new : Monitored) : Type 0 where
  pub outcome : Outcome
  pub comes : comes_to outcome
  pub replies : MonitorReplies options old line outcome told new

-- what was said comes to this by the names that the monitor has
abbrev pub said_comes_to : Monitored → Said → Outcome → Type 0
said_comes_to monitor what outcome =
    SaidComesTo (setting_of monitor) (not monitor.strangers) what outcome

-- so does the line
abbrev pub line_comes_to : Monitored → StreamForm → StreamLine → Outcome → Type 0
line_comes_to monitor form line outcome =
    ComesTo (setting_of monitor) (not monitor.strangers) form line outcome

-- the bytes that tell an event, by the names that the monitor has
abbrev pub event_bytes : Options → Monitored → Event → List ℕ
event_bytes options monitor event =
    event_text options.report (setting_of monitor).ontology (setting_of monitor).queries event

abbrev pub events_bytes : Options → Monitored → List Event → List ℕ
events_bytes options monitor told = flat_map (event_bytes options monitor) told

-- ---- a watch by a monitor

-- where it stands between lines: what the monitor is, and how many lines were refused
pub record Watched : Type 0 where
  pub monitor : Monitored
  pub refused : ℕ

-- before the first line
abbrev pub watched_from : Monitored → Watched
watched_from monitor = record { monitor = monitor; refused = 0 }

-- it goes on by a line with this number, of which these events are told
abbrev pub MonitorGoesOn : Options → Watched → ℕ → StreamLine → List Event → Watched → Type 0
MonitorGoesOn options before number line told after =
    MonitorTells options before.monitor number (line_comes_to before.monitor options.form line) told
    after.monitor
    × (after.refused ≡ before.refused + refused_in told)

-- what it tells of a line
abbrev pub monitors : Options → Step Watched
monitors options before number line told after =
    (events : List Event)
    × MonitorGoesOn options before number line events after
    × (told ≡ events_bytes options after.monitor events)

-- the last event
abbrev pub last_event : Watched → Event
last_event after = End after.monitor.state.count after.refused

-- and of a stream: first the heading, last the end
abbrev pub monitoring : Options → Manner Watched
monitoring options = record {
  opening = heading_of options;
  step = monitors options;
  closes = λ after last. last ≡ event_bytes options after.monitor (last_event after);
}
