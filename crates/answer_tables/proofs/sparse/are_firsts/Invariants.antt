use Rattle.std.proofs.Common.{ℕ, ◌≡◌, ◌<◌, []}
use Rattle.std.specs.Prelude.{slice_index_or}
use Rattle.answer_tables.specs.Joint.{joint_at}
use Rattle.answer_tables.proofs.sparse.are_firsts.Given as goal

abbrev pub invariant-loop-i : goal.invariant-loop-i
invariant-loop-i l = (k : ℕ) → k < l.i
    → slice_index_or l.links k [] ≡ slice_index_or l.a (joint_at l.joints k).first []
