use Rattle.std.proofs.Common.{◌≡◌, ◌++◌}
use Rattle.stream_maker.specs.Draws.{after}
use Rattle.stream_maker.specs.Snapshots.{pair_end, pairs_text}
use Rattle.stream_maker.proofs.draws.Generator.append_pairs.Given as goal

abbrev pub invariant-loop-pair : goal.invariant-loop-pair
invariant-loop-pair l = (l.out.items ≡ l.initial.out.items
    ++ pairs_text l.initial.self.state l.pair)
    × (l.self.state ≡ after pair_end l.initial.self.state l.pair)
