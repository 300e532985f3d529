use Rattle.std.proofs.Common.{◌≡◌, ℕ, ◌<◌, length}
use Rattle.std.specs.Prelude.{◌↔◌}
use Rattle.tcq_syntax.specs.Formula.{Formula, formula_of}
use Rattle.step_examples.specs.Plain.{AreRows, LeafAsksForMembers, HoldsIn, IsSet}
use Rattle.step_examples.proofs.plain.row_of.Given as goal

abbrev pub invariant-loop-i : goal.invariant-loop-i
invariant-loop-i l = record {
  long : length l.row ≡ 4;
  tells : (child : ℕ → Formula) (number : ℕ) → AreRows l.facts child l.rows
      → LeafAsksForMembers l.node → (k : ℕ) → k < l.i
      → IsSet l.row k ↔ HoldsIn l.facts (formula_of child number l.node) k;
}
