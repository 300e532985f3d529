use Rattle.std.proofs.Common.{◌≡◌, ◌+◌, ◌^◌, take, length}
use Rattle.answer_tables.proofs.Parts.{Weighing}
use Rattle.answer_tables.proofs.marks.weights_of_part.Given as goal

abbrev pub invariant-loop-place : goal.invariant-loop-place
invariant-loop-place l = record {
  left : l.left + l.place-index ≡ length l.places;
  weighing : Weighing l.slots l.arity (take l.place-index l.places) (l.slots ^ l.left)
      l.weights.items;
}
