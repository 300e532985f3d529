use Rattle.std.proofs.Common.{[], ◌∙◌}
use Rattle.stream_maker.specs.Draws.{after}
use Rattle.stream_maker.specs.Snapshots.{snapshot_text, snapshot_end}
use Rattle.stream_maker.proofs.Growing.{after-zero, pieces-zero, after_more, state_pieces_more}
use Rattle.stream_maker.proofs.sources.make_stream.Goals as goal

pub loop-line-init : goal.loop-line-init
loop-line-init c = (
  c.new-stream.ensures.items ∙ pieces-zero (λ k. snapshot_text (after snapshot_end c.args.seed k)),
  c.new-generator.ensures ∙ after-zero snapshot_end c.args.seed,
)

pub loop-line-preserved : goal.loop-line-preserved
loop-line-preserved c = (
  state_pieces_more snapshot_text snapshot_end c.args.seed c.loop-line.line
      c.loop-line.generator.state [] c.loop-line.stream.items c.append_snapshot.new.out.items
      c.loop-line.invariant.1 c.loop-line.invariant.0 c.in_ok-append_snapshot.ensures.ok,
  after_more snapshot_end c.args.seed c.loop-line.line c.loop-line.generator.state
      c.append_snapshot.new.self.state
      c.loop-line.invariant.1 c.in_ok-append_snapshot.ensures.advanced,
)
