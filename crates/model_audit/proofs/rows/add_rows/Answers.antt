-- Answers to the goals of `add_rows`: one more leaf and its rows.
use Rattle.std.proofs.Common.{List, [], ◌∷◌, ◌++◌, sym, subst}
use Rattle.std.specs.List.{AllZip}
use Rattle.dl_syntax.specs.Rows.{Relation}
use Rattle.tcq_syntax.specs.declared.nodes.Node.{Node}
use Rattle.model_audit.specs.Rows.{AreRowsOf, leaf_queries}
use Rattle.list_lemmas.proofs.Zipped.{AllZip-added}
use Rattle.model_audit.proofs.rows.add_rows.Goals as goal

pub returns-in_ok-push-in-Leaf : goal.returns-in_ok-push-in-Leaf
returns-in_ok-push-in-Leaf c = λ front zipped.
    subst (λ (n : Node).
    AllZip (AreRowsOf c.args.index.now c.args.count) (front ++ leaf_queries (n ∷ []))
    c.push.new.self.items)
    (sym c.in-Leaf.is)
    (subst (λ (rows : List Relation).
    AllZip (AreRowsOf c.args.index.now c.args.count) (front ++ c.in-Leaf.query ∷ []) rows)
    (sym c.in_ok-push-in-Leaf.ensures.items)
    (AllZip-added (AreRowsOf c.args.index.now c.args.count) front c.args.rows.now.items
    c.in-Leaf.query c.in_ok-found-in-Leaf.found zipped c.in_ok-found-in-Leaf.ensures))
