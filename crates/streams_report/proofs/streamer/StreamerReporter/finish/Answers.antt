use Rattle.std.proofs.Common.{◌∙◌}
use Rattle.std.proofs.lemmas.Result.{on_ok_weaker}
use Rattle.monitor_core.specs.Exchanging.{setting_under}
use Rattle.streams_report.proofs.Closing.{closes_all, as_many}
use Rattle.streams_report.proofs.streamer.StreamerReporter.finish.Goals as goal

pub returns : goal.returns
returns c =
    let s = c.args.self.now in
    on_ok_weaker c.append_end.result (λ gathers mixed is.
    closes_all (setting_under s.set.watched) mixed c.len.result s.unowned c.args.gathered.now.items
    c.finish_each.new.gathered.items c.append_end.new.out.items
    (c.in_ok-finish_each.ensures mixed is)
    (c.len.ensures.len ∙ as_many s.set s.counts s.unowned mixed is) is.none gathers)
    c.append_end.ensures
