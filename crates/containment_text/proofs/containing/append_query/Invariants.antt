use Rattle.std.proofs.Common.{take}
use Rattle.containment_text.specs.Containments.{pairs_with, TellsMorePairs}
use Rattle.containment_text.proofs.containing.append_query.Given as goal

abbrev pub invariant-loop-from : goal.invariant-loop-from
invariant-loop-from l = TellsMorePairs l.source.ontology.now
    (pairs_with l.place l.query 0 (take l.from l.queries)) l.initial.text.items l.text.items
