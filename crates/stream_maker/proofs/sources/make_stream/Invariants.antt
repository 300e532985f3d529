use Rattle.std.proofs.Common.{◌≡◌}
use Rattle.stream_maker.specs.Draws.{after}
use Rattle.stream_maker.specs.Snapshots.{snapshot_end, stream_text}
use Rattle.stream_maker.proofs.sources.make_stream.Given as goal

abbrev pub invariant-loop-line : goal.invariant-loop-line
invariant-loop-line l = (l.stream.items ≡ stream_text l.seed l.line)
    × (l.generator.state ≡ after snapshot_end l.seed l.line)
