use Rattle.std.proofs.Common.{◌∙◌}
use Rattle.stream_report.specs.Outside.{sink_told}
use Rattle.monitor_run.specs.Ends.{line_of}
use Rattle.monitor_run.proofs.RunLaws.{said}
use Rattle.monitor_run.proofs.command.say.Goals as goal

pub returns : goal.returns
returns g c = said (sink_told g.E.Sink c.args.err.now) (sink_told g.E.Sink c.write_all.new.sink)
    c.as_slice.result.now (line_of c.args.ending) c.write_all.result
    (c.as_slice.ensures.value ∙ c.error_line-line.ensures) c.write_all.ensures.writes
    c.write_all.ensures.cause
