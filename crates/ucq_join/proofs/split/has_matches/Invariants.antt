use Rattle.std.proofs.Common.{[], length}
use Rattle.std.specs.Prelude.{◌↔◌}
use Rattle.ucq_join.specs.Partial.{HasMatch}
use Rattle.ucq_join.proofs.split.has_matches.Given as goal

-- the atoms have a match where those that are left have one
abbrev pub invariant-loop-atom : goal.invariant-loop-atom
invariant-loop-atom l = HasMatch l.index l.initial.rest.items [] ↔ HasMatch l.index l.rest.items []

abbrev pub decreases-loop-atom : goal.decreases-loop-atom
decreases-loop-atom l = length l.rest.items
