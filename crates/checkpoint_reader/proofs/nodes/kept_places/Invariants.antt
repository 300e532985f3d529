use Rattle.checkpoint_reader.proofs.KeptPlaces.{KeptTo}
use Rattle.checkpoint_reader.proofs.nodes.kept_places.Given as goal

abbrev pub invariant-loop-place : goal.invariant-loop-place
invariant-loop-place l = KeptTo l.query.nodes l.place l.places.items
