-- How a watch and a drill end.
use Rattle.std.specs.Prelude.{ℕ}
use Rattle.stream_maker.specs.Ontology.{ontology_text}
use Rattle.stream_maker.specs.Snapshots.{queries_text, stream_text}
use Rattle.stream_report.specs.declared.ending.Ending.{Ending}
use Rattle.stream_report.specs.Commands.{OpenedEnds}
use Rattle.stream_report.specs.Ends.{StreamEnds, TextEnds}
use Rattle.stream_report.specs.Outside.{Ports, Outside}
use Rattle.job_sources.specs.declared.refusal.Refusal.{Refusal}
use Rattle.job_sources.specs.FileNames.{FileNames}
use Rattle.job_sources.specs.Sources.{nothing_more, Opens, OpeningFails, TextsUnread}
use Rattle.job_sources.specs.Ends.{FilesEnd, FilesStay}
use Rattle.watch_report.specs.declared.options.Options.{Options}
use Rattle.watch_report.specs.Drill.{MadeSay, IsDrill}
use Rattle.watch_report.specs.Report.{start, watching}

-- the stream was watched by what the files of these names say
abbrev pub WatchEnds : Options → FileNames → Ending Refusal → Outside → Outside → Type 0
WatchEnds options names ending before now =
    FilesStay ending before.files now.files
    × FilesEnd nothing_more names
    (λ setting. StreamEnds (watching (record { setting = setting; options = options })) start)
    ending before now

-- how a drill of this seed and so many snapshots ended
abbrev pub DrillEnds : ℕ → ℕ → Ending Refusal → Ports → Ports → Type 0
DrillEnds seed count ending before now =
    OpenedEnds (Opens nothing_more MadeSay)
    (OpeningFails nothing_more MadeSay (TextsUnread ontology_text queries_text))
    (λ setting. TextEnds (IsDrill setting (stream_text seed count))) ending before now
