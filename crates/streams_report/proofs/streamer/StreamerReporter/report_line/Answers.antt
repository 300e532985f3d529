use Rattle.std.proofs.Common.{sym, ◌∙◌, ap}
use Rattle.std.specs.Prelude.{codes}
use Rattle.stream_report.specs.Told.{item_of}
use Rattle.monitor_core.specs.Exchanging.{setting_under}
use Rattle.marked_lines.specs.Marks.{belonging, to_none, is_long}
use Rattle.streams_report.proofs.Telling.{on_both, refused_line}
use Rattle.streams_report.proofs.streamer.StreamerReporter.report_line.Goals as goal

pub returns-in-NoStream-clause-tells : goal.returns-in-NoStream-clause-tells
returns-in-NoStream-clause-tells c =
    let s = c.args.self.now in
    on_both c.refuse.result (λ more gathers mixed is.
    refused_line (setting_under s.set.watched) s.set c.refuse.new.self.set s.counts
    c.refuse.new.self.counts s.unowned c.refuse.new.self.unowned mixed c.args.number
    (item_of c.args.line) to_none (codes "no-stream") c.args.gathered.now.items
    c.refuse.new.gathered.items
    (sym (ap belonging c.in-NoStream.is) ∙ c.owner_of.ensures) (λ told after refuses. refuses)
    c.refuse.ensures.set c.refuse.ensures.counts is more gathers)
    c.refuse.ensures.unowned c.refuse.ensures.text

pub returns-in-TooLong-clause-tells : goal.returns-in-TooLong-clause-tells
returns-in-TooLong-clause-tells c =
    let s = c.args.self.now in
    let r = c.refuse-in-TooLong in
    on_both r.result (λ more gathers mixed is.
    refused_line (setting_under s.set.watched) s.set r.new.self.set s.counts r.new.self.counts
    s.unowned r.new.self.unowned mixed c.args.number (item_of c.args.line) is_long
    (codes "too-long") c.args.gathered.now.items r.new.gathered.items
    (sym (ap belonging c.in-TooLong.is) ∙ c.owner_of.ensures) (λ told after refuses. refuses)
    r.ensures.set r.ensures.counts is more gathers)
    r.ensures.unowned r.ensures.text
