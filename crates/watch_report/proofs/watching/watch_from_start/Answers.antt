use Rattle.std.proofs.Common.{false}
use Rattle.tcq_syntax.specs.Histories.{empty_history}
use Rattle.monitor_core.specs.Standing.{Stands}
use Rattle.stream_report.specs.Ends.{StreamEnds}
use Rattle.stream_report.specs.Outside.{ports_of}
use Rattle.stream_report.proofs.WholeReports.{streamed}
use Rattle.watch_report.specs.Report.{Standing, start, watching}
use Rattle.watch_report.specs.Task.{Task, task_of}
use Rattle.watch_report.proofs.OwnSettings.{own_manner}
use Rattle.watch_report.proofs.watching.watch_from_start.Goals as goal

pub returns : goal.returns
returns g c =
    let run = c.watch-ending in
    let before = ports_of g.S.Source g.K.Sink c.args.input.now c.args.out.now in
    let now = ports_of g.S.Source g.K.Sink run.new.input run.new.out in
    let run_of : Task → Type 0 = λ (t : Task). StreamEnds (watching t) start run.result.0 before now
    in
    record {
      ends = own_manner c.args.monitor c.args.options false run_of c.requires.stands (
        streamed (watching (task_of c.args.options c.args.monitor)) start
            (λ (after : Standing). Stands run.result.1 after.history) run.result.0 before now
            (run.ensures.history (empty_history false) c.requires.stands),
        run.ensures.fault,
      );
    }
