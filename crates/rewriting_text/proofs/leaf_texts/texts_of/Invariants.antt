use Rattle.std.proofs.Common.{◌≡◌, map, take}
use Rattle.report_text.specs.Queries.{cq_text}
use Rattle.rewriting_text.specs.Leaves.{bytes_of_each}
use Rattle.rewriting_text.proofs.leaf_texts.texts_of.Given as goal

abbrev pub invariant-loop-cq : goal.invariant-loop-cq
invariant-loop-cq l = bytes_of_each l.texts.items
    ≡ map (cq_text l.ontology) (take l.cq-index l.members)
