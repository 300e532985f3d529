use Rattle.std.proofs.Common.{sym, arith}
use Rattle.snapshot_reader.proofs.JsonFacts.{too_few, too_many}
use Rattle.snapshot_reader.proofs.json_lines.fact_in.Goals as goal
use Rattle.snapshot_reader.proofs.json_lines.fact_in.Goals.{in_default-via-then-as_slice-lt2}
use Rattle.snapshot_reader.proofs.json_lines.fact_in.Goals.{
  in_default-via-else-as_slice-lt2+else-this-lt3+else-this-lt4,
}

pub returns-in_default : goal.returns-in_default
returns-in_default c = elim c.in_default.branch [
  | in_default-via-then-as_slice-lt2 w ↦
      rw (← c.in_ok-as_array.ensures, ← c.as_slice.ensures.value)
      (sym (too_few c.as_slice.result.now (grind arith)))
  | in_default-via-else-as_slice-lt2+else-this-lt3+else-this-lt4 w ↦
      rw (← c.in_ok-as_array.ensures, ← c.as_slice.ensures.value)
      (sym (too_many c.as_slice.result.now (grind arith)))
]
