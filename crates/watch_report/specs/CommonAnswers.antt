-- What a report tells of all models of the accepted snapshots. After Borgwardt, Lippmann and Thost
-- 2015, for concepts and roles that may change their meaning from one snapshot to the next.
use Rattle.std.specs.Prelude.{ℕ, ◌+◌, List, [], ◌∷◌, length}
use Rattle.std.specs.List.{All}
use Rattle.dl_syntax.specs.Ontology.{Declared}
use Rattle.dl_syntax.specs.Rows.{Relation}
use Rattle.tcq_syntax.specs.Histories.{History, individuals_of}
use Rattle.tcq_syntax.specs.Tcq.{Tcq}
use Rattle.edge_io.specs.Lines.{Item as StreamLine}
use Rattle.report_text.specs.declared.event.Event.{Event}
use Rattle.report_text.specs.declared.event.Event.TheVariants.{Accepted, Declared as Declares}
use Rattle.report_text.specs.declared.event.Event.TheVariants.{Refused, End}
use Rattle.monitor_core.specs.Setting.{Setting}
use Rattle.stream_report.specs.Told as streams
use Rattle.models_over_time.specs.Readings.{AreConsistent, AreCommonAnswers}
use Rattle.watch_report.specs.Report.{Standing, start, GoesOn, watches}
use Rattle.watch_report.specs.Task.{Task}

-- for each query exactly the rows, over the individuals of the ontology and those that came with
-- the history, for which it holds in each sequence of models of the history's snapshots
abbrev pub AreAllCommon : Declared → List Tcq → History → List Relation → Type 0
AreAllCommon ontology [] history [] = Unit {0}
AreAllCommon ontology [] history (relation ∷ relations) = ⊥
AreAllCommon ontology (query ∷ queries) history [] = ⊥
AreAllCommon ontology (query ∷ queries) history (relation ∷ relations) =
    AreCommonAnswers ontology.inclusions ontology.clashes
    (individuals_of (length ontology.individuals) history) query history relation.rows
    × AreAllCommon ontology queries history relations

-- an accepted snapshot is told with them
abbrev pub TellsCommon : Setting → History → Event → Type 0
TellsCommon setting history (Accepted line number answers kept) =
    AreAllCommon setting.ontology setting.queries history answers
TellsCommon setting history (Declares line name) = Unit {0}
TellsCommon setting history (Refused line cause) = Unit {0}
TellsCommon setting history (End accepted refused) = Unit {0}

-- behind any lines the accepted snapshots are consistent, and one more line is told so
abbrev pub AnswersAreCommon : Type 0
AnswersAreCommon =
    (task : Task) (lines : List StreamLine) (text : List ℕ) (before : Standing)
    (line : StreamLine) (told : List Event) (after : Standing)
    → streams.Told (watches task) lines 1 start text before
    → GoesOn task before (1 + length lines) line told after
    → AreConsistent task.setting.ontology.inclusions task.setting.ontology.clashes after.history
    × All (TellsCommon task.setting after.history) told
