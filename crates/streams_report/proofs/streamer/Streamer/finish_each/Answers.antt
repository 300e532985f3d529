use Rattle.std.proofs.Common.{◌≡◌, ℕ, length, subst, arith}
use Rattle.monitor_core.specs.Exchanging.{setting_under}
use Rattle.streams_report.specs.Streaming.{ClosesFirst}
use Rattle.streams_report.proofs.Closing.{closes_none, closes_more, as_many}
use Rattle.streams_report.proofs.streamer.Streamer.finish_each.Goals as goal

pub loop-stream-init : goal.loop-stream-init
loop-stream-init c = λ mixed is.
    closes_none (setting_under c.args.self.now.set.watched) mixed.streams c.args.gathered.now.items

pub loop-stream-preserved : goal.loop-stream-preserved
loop-stream-preserved c = λ mixed is.
    closes_more (setting_under c.args.self.now.set.watched) mixed.streams c.loop-stream.stream
    c.args.gathered.now.items c.loop-stream.gathered.items c.finish_one.new.gathered.items
    (c.loop-stream.invariant mixed is) (c.in_ok-finish_one.ensures mixed is)

pub returns : goal.returns
returns c = λ mixed is.
    let many = as_many c.args.self.now.set c.args.self.now.counts c.args.self.now.unowned mixed is
    in
    let all : c.loop-stream.stream ≡ length mixed.streams =
    omega (
      arith,
      many,
      c.len-count.ensures.len,
      c.loop-stream-test.false,
      c.loop-stream.auto.stream-end,
    ) in
    subst (λ (n : ℕ). ClosesFirst (setting_under c.args.self.now.set.watched) n mixed.streams
    c.args.gathered.now.items c.loop-stream.gathered.items) all (c.loop-stream.invariant mixed is)
