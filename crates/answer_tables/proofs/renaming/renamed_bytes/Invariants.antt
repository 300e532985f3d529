use Rattle.std.proofs.Common.{◌≡◌, length}
use Rattle.std.specs.Prelude.{slice_index}
use Rattle.answer_tables.specs.Runs.{unit_runs}
use Rattle.answer_tables.proofs.Renamings.{Mapping}
use Rattle.answer_tables.proofs.renaming.renamed_bytes.Given as goal

abbrev pub invariant-loop-byte : goal.invariant-loop-byte
invariant-loop-byte l = record {
  mapping : Mapping (slice_index l.places) (unit_runs 0 l.bytes) (unit_runs 0 l.new.items)
      l.byte-index;
  many : length l.new.items ≡ l.byte-index;
}
