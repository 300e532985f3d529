use Rattle.std.proofs.Common.{take}
use Rattle.rewriting_text.specs.Leaves.{leaves_from, TellsMoreLeaves}
use Rattle.rewriting_text.proofs.rewriting.gather_query.Given as goal

abbrev pub invariant-loop-place : goal.invariant-loop-place
invariant-loop-place l =
    TellsMoreLeaves l.source.ontology.now (leaves_from l.name 0 (take l.place l.nodes))
    l.initial.text.items l.text.items
