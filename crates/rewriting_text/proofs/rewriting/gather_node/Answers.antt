use Rattle.rewriting_text.proofs.rewriting.gather_node.Goals as goal

pub gather_leaf-requires-clause-query : goal.gather_leaf-requires-clause-query
gather_leaf-requires-clause-query c = c.requires.query c.in-Leaf.cq c.in-Leaf.is
