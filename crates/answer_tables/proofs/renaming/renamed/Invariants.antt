use Rattle.std.specs.Prelude.{slice_index}
use Rattle.answer_tables.proofs.Renamings.{Mapping}
use Rattle.answer_tables.proofs.renaming.renamed.Given as goal

abbrev pub invariant-loop-run : goal.invariant-loop-run
invariant-loop-run l = Mapping (slice_index l.places) l.runs l.new.items l.run-index
