use Rattle.std.proofs.Common.{length}
use Rattle.containment_text.proofs.leaf_queries.+first_no_leaf.Given as goal

abbrev pub decreases-first_no_leaf : goal.decreases-first_no_leaf
decreases-first_no_leaf l = length l.queries.now
