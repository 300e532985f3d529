use Rattle.std.proofs.Common.{take}
use Rattle.containment_text.specs.Containments.{pairs_from, TellsMorePairs}
use Rattle.containment_text.proofs.containing.append_queries.Given as goal

abbrev pub invariant-loop-place : goal.invariant-loop-place
invariant-loop-place l = TellsMorePairs l.source.ontology.now
    (pairs_from l.queries 0 (take l.place l.queries)) l.initial.text.items l.text.items
