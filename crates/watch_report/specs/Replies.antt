-- What the monitor replies to a line.
use Rattle.std.specs.Prelude.{◌≡◌, ℕ, Option, None, Some, List, [], ◌∷◌, ◌++◌}
use Rattle.edge_io.specs.Lines.{Item as StreamLine}
use Rattle.report_text.specs.declared.item.Cause.{Cause}
use Rattle.report_text.specs.declared.item.Cause.TheVariants as cause
use Rattle.report_text.specs.declared.event.Event.{Event}
use Rattle.report_text.specs.declared.event.Event.TheVariants as event
use Rattle.report_text.specs.Events.{EventHasNames}
use Rattle.snapshot_reader.specs.Said.{Said, nothing, refused, names, says}
use Rattle.declaring.specs.declared.fault.DeclareFault.{DeclareFault}
use Rattle.declaring.specs.declared.fault.DeclareFault.TheVariants as declare
use Rattle.monitor_core.specs.declared.accept_fault.AcceptFault.{AcceptFault}
use Rattle.monitor_core.specs.declared.accept_fault.AcceptFault.TheVariants as fault
use Rattle.monitor_core.specs.Keeping.{Monitored}
use Rattle.monitor_core.specs.Setting.{Setting}
use Rattle.watch_report.specs.declared.options.Options.{Options}
use Rattle.watch_report.specs.Outcome.{cause_of}
use Rattle.watch_report.specs.Monitoring.{MonitorTells, events_bytes, line_comes_to}
use Rattle.watch_report.specs.Report.{refused_in}

-- what is told, if there is an event
abbrev pub told_by : Option Event → List Event
told_by None = []
told_by (Some told) = told ∷ []

-- the numbers and names that the event has, if there is one, exist
abbrev pub HasNamesOf : Setting → Option Event → Type 0
HasNamesOf setting None = Unit {0}
HasNamesOf setting (Some told) = EventHasNames setting.ontology setting.queries told

-- where there is an event, its numbers and names exist in the new setting; else nothing changed
abbrev pub KeepsNames : Setting → Setting → Option Event → Type 0
KeepsNames old new None = new ≡ old
KeepsNames old new (Some told) = EventHasNames new.ontology new.queries told

-- a text is refused for the cause
abbrev pub IsRefusedFor : Said → Cause → Type 0
IsRefusedFor nothing why = ⊥
IsRefusedFor (refused c) why = why ≡ cause_of c
IsRefusedFor (names name) why = ⊥
IsRefusedFor (says snapshot) why = ⊥

-- a name is refused for the cause
abbrev pub IsNameRefusedFor : List ℕ → DeclareFault → Cause → Type 0
IsNameRefusedFor name declare.Closed why = why ≡ cause.Closed
IsNameRefusedFor name (declare.NameTwice place) why = why ≡ cause.NameTwice name
IsNameRefusedFor name (declare.TooMany place) why = why ≡ cause.TooMany
IsNameRefusedFor name (declare.TooLarge place total) why = why ≡ cause.TooLarge total
IsNameRefusedFor name declare.Memory why = ⊥

-- the event tells that the line with this number was refused for the clash that the snapshot met
abbrev pub IsRefusal : ℕ → AcceptFault → Event → Type 0
IsRefusal number (fault.Contradiction clash) told =
    told ≡ event.Refused number (cause.Contradiction clash)
IsRefusal number fault.Memory told = ⊥

-- a monitor told this of a line, and the bytes of it were gathered behind the buffer's, of so many
-- refusals
pub record Gathers (options : Options) (old new : Monitored) (line : StreamLine) (number : ℕ)
    (before now : List ℕ) (refused : ℕ) : Type 0 where
  pub told : Option Event
  pub tells : MonitorTells options old number (line_comes_to old options.form line) (told_by told)
      new
  pub gathers : now ≡ before ++ events_bytes options new (told_by told)
  pub refuses : refused ≡ refused_in (told_by told)
