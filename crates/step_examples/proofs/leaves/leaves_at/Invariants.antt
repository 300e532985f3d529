use Rattle.std.proofs.Common.{take}
use Rattle.std.specs.List.{All}
use Rattle.step_examples.specs.Over.{AreAnswers, AreOver}
use Rattle.step_examples.specs.Plain.{LeafAsksForMembers}
use Rattle.step_examples.proofs.leaves.leaves_at.Given as goal

abbrev pub invariant-loop-node : goal.invariant-loop-node
invariant-loop-node l = record {
  over : AreOver (take l.node-index l.nodes) l.leaves.items;
  answers : All LeafAsksForMembers l.nodes
      → AreAnswers l.fact (take l.node-index l.nodes) l.leaves.items;
}
