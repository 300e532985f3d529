use Rattle.containment_text.proofs.LeafQueries.{all_leaf_queries}
use Rattle.containment_text.proofs.containment_files.text_of_leaves.Goals as goal

pub rewrite_all-requires : goal.rewrite_all-requires
rewrite_all-requires c = all_leaf_queries c.args.queries.now c.requires.leaves
