use Rattle.std.proofs.Common.{◌≡◌, ◌+◌, List, ◌++◌, [], ◌∷◌, length, take, sym, subst}
use Rattle.std.specs.Prelude.{◌↔◌}
use Rattle.std.specs.List.{All, AllZip, Contains}
use Rattle.std.proofs.lemmas.List.Elements.{All-get_or}
use Rattle.std.proofs.lemmas.Slice.Zip.{all_zipped_more}
use Rattle.dl_syntax.specs.declared.names.IndId.{IndId}
use Rattle.dl_syntax.specs.declared.queries.Cq.{Cq}
use Rattle.dl_syntax.specs.Queries.{IsQuery}
use Rattle.dl_syntax.specs.Rows.{Relation}
use Rattle.ucq_join.specs.Answers.{IsUnionAnswer}
use Rattle.monitor_core.specs.declared.plan.Leaf.{Leaf}
use Rattle.monitor_core.specs.Leaves.{AsksWell, AreUnionAnswers}
use Rattle.monitor_core.proofs.Askable.{taken_more}
use Rattle.monitor_core.proofs.leaves.leaf_answers.Goals as goal

pub answers-requires-clause-queries : goal.answers-requires-clause-queries
answers-requires-clause-queries c =
    let leaf : AsksWell c.leaf-item.result =
    subst AsksWell (sym c.leaf-item.is)
    (All-get_or AsksWell c.args.leaves.now c.loop-leaf.leaf-index c.leaf-item.result
    c.loop-leaf-test.true c.requires) in
    subst (All IsQuery) (sym c.as_slice.ensures.value) leaf.queries

pub answers-requires-clause-heads : goal.answers-requires-clause-heads
answers-requires-clause-heads c =
    let leaf : AsksWell c.leaf-item.result =
    subst AsksWell (sym c.leaf-item.is)
    (All-get_or AsksWell c.args.leaves.now c.loop-leaf.leaf-index c.leaf-item.result
    c.loop-leaf-test.true c.requires) in
    subst (All (λ (q : Cq). length q.head ≡ c.leaf-item.result.arity))
    (sym c.as_slice.ensures.value) leaf.heads

pub loop-leaf-preserved : goal.loop-leaf-preserved
loop-leaf-preserved c =
    let leaves = c.args.leaves.now in
    let i = c.loop-leaf.leaf-index in
    let relation = c.in_ok-answers.field-0 in
    let found : AreUnionAnswers c.args.index.now c.leaf-item.result relation = record {
      arity = c.in_ok-answers.ensures.arity;
      rising = c.in_ok-answers.ensures.rising;
      rows = subst (λ (qs : List Cq). (row : List IndId)
          → Contains relation.rows row ↔ IsUnionAnswer c.args.index.now qs row)
          c.as_slice.ensures.value c.in_ok-answers.ensures.rows;
    } in
    subst (λ (rs : List Relation). AllZip (AreUnionAnswers c.args.index.now) (take (i + 1) leaves)
    rs) (sym c.in_ok-push.ensures.items)
    (subst (λ (ls : List Leaf). AllZip (AreUnionAnswers c.args.index.now) ls
    (c.loop-leaf.rows.items ++ relation ∷ []))
    (sym (taken_more leaves i c.leaf-item.result c.loop-leaf-test.true c.leaf-item.is))
    (all_zipped_more (AreUnionAnswers c.args.index.now) (take i leaves) c.loop-leaf.rows.items
    c.leaf-item.result relation c.loop-leaf.invariant found))
