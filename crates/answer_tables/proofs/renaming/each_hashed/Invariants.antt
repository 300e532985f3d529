use Rattle.std.proofs.Common.{take}
use Rattle.answer_tables.specs.Renaming.{ArePlaces}
use Rattle.answer_tables.proofs.renaming.each_hashed.Given as goal

abbrev pub invariant-loop-link : goal.invariant-loop-link
invariant-loop-link l = ArePlaces (take l.link-index l.links) l.antichains.keys l.places.items
