use Rattle.std.proofs.Common.{◌≡◌, ap, subst}
use Rattle.stream_report.specs.Ends.{StreamEnds}
use Rattle.stream_report.specs.Outside.{ports_of}
use Rattle.monitor_core.specs.Exchanging.{watched_of, setting_under}
use Rattle.monitor_core.specs.Setting.{Setting}
use Rattle.monitor_core.specs.Standing.{setting_of}
use Rattle.many_streams.specs.Streams.{Streams}
use Rattle.marked_lines.specs.Mixing.{unmixed}
use Rattle.streams_report.specs.Report.{streaming}
use Rattle.streams_report.proofs.Entering.{begins_mixed}
use Rattle.streams_report.proofs.streamer.stream_mixed.Goals as goal

pub returns : goal.returns
unfolding setting_of
returns g c =
    let s = c.new-streamer.result in
    let same : setting_under s.set.watched ≡ setting_of c.args.monitor =
    ap (λ (x : Streams). setting_under x.watched) c.new-streamer.ensures.set in
    record {
      ends = subst (λ (t : Setting). StreamEnds (streaming t) unmixed c.report_stream.result
          (ports_of g.S.Source g.K.Sink c.args.input.now c.args.out.now)
          (ports_of g.S.Source g.K.Sink c.report_stream.new.input c.report_stream.new.out)) same (
            c.report_stream.ensures.ends unmixed
                (begins_mixed s.set s.counts s.unowned (watched_of c.args.monitor)
                c.new-streamer.ensures.set c.new-streamer.ensures.counts
                c.new-streamer.ensures.unowned),
            c.report_stream.ensures.fault,
          );
    }
