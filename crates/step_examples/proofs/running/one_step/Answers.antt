use Rattle.std.proofs.Common.{◌∙◌, ◌↔◌, [], List, sym, subst, ap, arith}
use Rattle.std.specs.Prelude.{IsTrue}
use Rattle.std.specs.List.{All}
use Rattle.dl_syntax.specs.declared.facts.Fact.{Fact}
use Rattle.dl_syntax.specs.declared.ontology.Inclusion.{Inclusion}
use Rattle.dl_syntax.specs.Rows.{Relation}
use Rattle.tcq_syntax.specs.declared.nodes.Node.{Node}
use Rattle.tcq_syntax.specs.Formula.{IsTable}
use Rattle.tcq_syntax.specs.Histories.{History, with_snapshot}
use Rattle.tcq_syntax.proofs.Trees.{children_are_below}
use Rattle.progression.specs.declared.kept.Kept.{Kept}
use Rattle.progression.specs.declared.kept.Slots.{Slots}
use Rattle.progression.specs.Kept.{Advances, AreLeafAnswers, StandsFor}
use Rattle.step_examples.specs.Over.{AreAnswers}
use Rattle.step_examples.specs.Plain.{LeafAsksForMembers, HoldsLast, Told, history_of, snapshot_of}
use Rattle.step_examples.proofs.LeafLists.{ok_is, one_pow}
use Rattle.step_examples.proofs.Agreeing.{differ, history_push, last_is, unequal}
use Rattle.step_examples.proofs.running.one_step.Goals as goal

-- the only individual
abbrev one_slot : Slots
one_slot = record { kept = 1; answered = 1 }

pub advance-requires-clause-few : goal.advance-requires-clause-few
advance-requires-clause-few c = omega (arith, one_pow c.args.query.now.vars)

pub holds_last-expected-requires-clause-table : goal.holds_last-expected-requires-clause-table
holds_last-expected-requires-clause-table c =
    subst IsTable (sym c.nodes-2.ensures.same)
    (children_are_below c.args.query.now.vars c.args.query.now.nodes c.nodes-2.ensures.valid).0

pub returns-clause-agrees : goal.returns-clause-agrees
returns-clause-agrees c =
    λ before told is plain stands.
    let query = c.args.query.now in
    let facts = c.args.facts.now in
    let leaves = c.as_slice.result.now in
    let kept = c.in_ok-kept.kept in
    let rows = c.in_ok-kept.rows in
    let at_last = c.in_ok-leaves.ensures.answers
    (subst (All LeafAsksForMembers) (sym c.nodes.ensures.same) plain.leaves) in
    let at_told : AreAnswers told c.nodes.result.now c.in_ok-leaves.leaves.items =
    subst (λ (t : Told). AreAnswers t c.nodes.result.now c.in_ok-leaves.leaves.items)
    (last_is facts before told _ is) at_last in
    let at_nodes : AreAnswers told query.nodes c.in_ok-leaves.leaves.items =
    subst (λ (ns : List Node). AreAnswers told ns c.in_ok-leaves.leaves.items)
    c.nodes.ensures.same at_told in
    let answers : AreLeafAnswers [] (snapshot_of told) query leaves =
    subst (AreAnswers told query.nodes) (sym c.as_slice.ensures.value) at_nodes in
    let advances = ok_is c.advance.result (kept, rows) c.in_ok-kept.ensures.value
    (λ (r : Kept × Relation). (inclusions : List Inclusion) (history : History)
    (snapshot : List Fact) → StandsFor inclusions 1 history query c.args.kept.now
    → AreLeafAnswers inclusions snapshot query leaves
    → Advances inclusions one_slot (with_snapshot snapshot history) query r.0 r.1.rows)
    c.advance.ensures.advances in
    let advanced : Advances [] one_slot (history_of facts) query kept rows.rows =
    subst (λ (h : History). Advances [] one_slot h query kept rows.rows)
    (history_push before told ∙ ap history_of (sym is))
    (advances [] (history_of before) (snapshot_of told) stands answers) in
    let expects : IsTrue c.holds_last-expected.result ↔ HoldsLast query.nodes facts =
    subst (λ (ns : List Node). IsTrue c.holds_last-expected.result
    ↔ HoldsLast ns facts) c.nodes-2.ensures.same
    (c.holds_last-expected.ensures (subst (All LeafAsksForMembers) (sym c.nodes-2.ensures.same)
    plain.leaves)) in (
      advanced.stands,
      unequal c.is_empty.result c.holds_last-expected.result
          (differ query facts rows.rows c.is_empty.result c.holds_last-expected.result plain.one
          c.requires.some advanced.answers c.is_empty.ensures expects),
    )
