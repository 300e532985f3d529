use Rattle.std.proofs.Common.{◌≡◌, ◌++◌, ◌∷◌, [], ◌∙◌, Bool, length, sym, ap, subst}
use Rattle.std.specs.Prelude.{if◌then◌else◌}
use Rattle.dl_syntax.specs.declared.queries.Cq.{Cq}
use Rattle.dl_syntax.specs.Rows.{Relation}
use Rattle.tcq_syntax.specs.declared.nodes.Node.{Node}
use Rattle.progression.specs.Kept.{AreCertain}
use Rattle.progression.specs.Tables.{IsOverLeaf}
use Rattle.step_examples.specs.Over.{AnswersOn, GoesOn}
use Rattle.step_examples.specs.Plain.{rows_if, snapshot_of}
use Rattle.step_examples.proofs.LeafLists.{zip_leaf, zip_other, not_leaf, ok_is}
use Rattle.step_examples.proofs.PlainLeaves.{rows_certain}
use Rattle.step_examples.proofs.leaves.with_leaf.Goals as goal

pub returns-in-Leaf : goal.returns-in-Leaf
returns-in-Leaf c =
    let old = c.args.leaves.items in
    let rows = c.in_ok-rows.rows in
    let q = c.in-Leaf.q in
    let more : c.push.new.self.items ≡ old ++ rows ∷ [] =
    c.push.ensures.items ∙ ap (λ (b : Bool).
    if b then old ++ rows ∷ [] else old) (sym c.in_ok-ok.ensures.variant) in
    let one : length q.head ≡ 1 = ap length (sym c.as_slice.ensures) ∙ c.if-as_slice-ne1.false in
    let over : IsOverLeaf q rows =
    ok_is c.column.result rows c.in_ok-rows.ensures.value (λ (r : Relation). (p : Cq)
    → length p.head ≡ 1 → IsOverLeaf p r) c.column.ensures.over q one in
    let rows_are : rows.rows ≡ rows_if c.leaf_holds.result =
    ok_is c.column.result rows c.in_ok-rows.ensures.value (λ (r : Relation). r.rows
    ≡ rows_if c.leaf_holds.result) c.column.ensures.rows in record {
      over = subst (λ (n : Node). GoesOn old n c.push.new.self.items) (sym c.in-Leaf.is)
          (subst (GoesOn old _) (sym more) (zip_leaf IsOverLeaf old q rows over));
      answers = λ leaf.
          let certain : AreCertain [] (snapshot_of c.args.fact) q rows =
          rows_certain c.args.fact q c.leaf_holds.result rows (leaf q c.in-Leaf.is)
          (c.leaf_holds.ensures (leaf q c.in-Leaf.is)) rows_are in
          subst (λ (n : Node). AnswersOn c.args.fact old n c.push.new.self.items) (sym c.in-Leaf.is)
          (subst (AnswersOn c.args.fact old _) (sym more)
          (zip_leaf (AreCertain [] (snapshot_of c.args.fact)) old q rows certain));
    }

pub returns : goal.returns
returns c = record {
  over = zip_other IsOverLeaf c.args.leaves.items c.args.node.now
      (not_leaf c.args.node.now c.in_default.not-Leaf);
  answers = λ leaf. zip_other (AreCertain [] (snapshot_of c.args.fact)) c.args.leaves.items
      c.args.node.now (not_leaf c.args.node.now c.in_default.not-Leaf);
}
