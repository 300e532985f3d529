use Rattle.std.proofs.Common.{take}
use Rattle.saturate.specs.Above.{ConceptsOf}
use Rattle.saturate.proofs.tables.concepts_of.Given as goal

abbrev pub invariant-loop-basic : goal.invariant-loop-basic
invariant-loop-basic l = ConceptsOf (take l.basic-index l.basics) l.concepts.items
