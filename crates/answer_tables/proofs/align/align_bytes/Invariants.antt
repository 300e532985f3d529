use Rattle.std.proofs.Common.{◌≡◌, length}
use Rattle.answer_tables.specs.Runs.{unit_runs}
use Rattle.answer_tables.specs.Coding.{IsCoding}
use Rattle.answer_tables.proofs.Aligning.{Aligning}
use Rattle.answer_tables.proofs.align.align_bytes.Given as goal

abbrev pub invariant-loop-i : goal.invariant-loop-i
invariant-loop-i l = record {
  aligning : Aligning (unit_runs 0 l.a) (unit_runs 0 l.b) (unit_runs 0 l.bytes.items)
      l.coding.joints.items l.i l.i l.i;
  many : length l.bytes.items ≡ l.i;
  coding : IsCoding l.coding.joints.items l.coding.codes.items l.coding.width;
}
