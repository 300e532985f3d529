use Rattle.std.proofs.Common.{take}
use Rattle.std.specs.List.{All}
use Rattle.tcq_syntax.specs.Formula.{formula_at}
use Rattle.step_examples.specs.Plain.{AreRows, LeafAsksForMembers}
use Rattle.step_examples.proofs.plain.rows_of.Given as goal

abbrev pub invariant-loop-place : goal.invariant-loop-place
invariant-loop-place l = All LeafAsksForMembers l.nodes
    → AreRows l.facts (formula_at l.nodes) (take l.place l.rows)
