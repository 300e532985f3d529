use Rattle.std.proofs.Common.{take}
use Rattle.rewriting_text.specs.Leaves.{leaves, TellsMoreLeaves}
use Rattle.rewriting_text.proofs.rewriting.gather_queries.Given as goal

abbrev pub invariant-loop-query : goal.invariant-loop-query
invariant-loop-query l =
    TellsMoreLeaves l.source.ontology.now (leaves (take l.query-index l.queries))
    l.initial.text.items l.text.items
