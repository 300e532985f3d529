use Rattle.std.proofs.Common.{◌≡◌, vec_len, reverse}
use Rattle.tcq_reader.specs.Building.{applied}
use Rattle.tcq_reader.proofs.table.TableBuilder.apply.Given as goal

abbrev pub invariant-loop-op : goal.invariant-loop-op
invariant-loop-op l =
    applied l.self.places (reverse l.self.frames.items) l.self.nodes.items
    ≡ applied l.initial.self.places (reverse l.initial.self.frames.items)
    l.initial.self.nodes.items

abbrev pub decreases-loop-op : goal.decreases-loop-op
decreases-loop-op l = vec_len l.self.frames
