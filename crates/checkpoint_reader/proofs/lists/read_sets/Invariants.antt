use Rattle.std.proofs.Common.{◌≡◌, ◌++◌, [], length}
use Rattle.std.specs.Prelude.{◌⊎◌, ◌<◌, flat_map}
use Rattle.std.specs.List.{All}
use Rattle.checkpoint_reader.specs.Lines.{EndsWord, set_text}
use Rattle.checkpoint_reader.proofs.lists.read_sets.Given as goal

abbrev pub invariant-loop-set : goal.invariant-loop-set
invariant-loop-set l = record {
  cut : l.text ≡ flat_map set_text l.sets.items ++ l.rest;
  small : All (λ set. set < 256) l.sets.items;
  ends : (l.sets.items ≡ []) ⊎ EndsWord l.rest;
}

abbrev pub decreases-loop-set : goal.decreases-loop-set
decreases-loop-set l = length l.rest
