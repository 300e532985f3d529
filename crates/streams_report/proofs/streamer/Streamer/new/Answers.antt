use Rattle.std.proofs.Common.{sym, subst}
use Rattle.report_text.specs.Names.{AreSpelled}
use Rattle.monitor_core.specs.Exchanging.{setting_under}
use Rattle.monitor_core.specs.Standing.{setting_of}
use Rattle.many_streams.specs.Streams.{Streams}
use Rattle.streams_report.proofs.Counting.{below_none}
use Rattle.streams_report.proofs.streamer.Streamer.new.Goals as goal

pub invariant_of-result : goal.invariant_of-result
unfolding setting_of
invariant_of-result c = record {
  are_spelled = subst (λ (s : Streams). AreSpelled (setting_under s.watched).queries)
      (sym c.new.ensures) c.requires.spelled;
  few = below_none;
}
