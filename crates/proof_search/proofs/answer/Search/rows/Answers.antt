use Rattle.std.proofs.Common.{◌≡◌, List, length, sym, subst}
use Rattle.std.specs.Prelude.{◌↔◌}
use Rattle.std.specs.List.{All, Contains}
use Rattle.dl_syntax.specs.declared.names.IndId.{IndId}
use Rattle.dl_syntax.specs.declared.facts.Fact.{Fact}
use Rattle.dl_syntax.specs.declared.queries.Cq.{Cq}
use Rattle.dl_syntax.specs.declared.queries.Term.{Term}
use Rattle.dl_syntax.specs.Encode.{IsOverOntology}
use Rattle.dl_syntax.specs.Rows.{Relation, IsRising}
use Rattle.perfect_ref.specs.Plain.{encoded, Reachable, Lists}
use Rattle.perfect_ref.proofs.Reached.{if_ok_both}
use Rattle.ucq_join.specs.Answers.{IsUnionAnswer}
use Rattle.proof_search.specs.Explaining.{AreCertainRows, HaveSame}
use Rattle.proof_search.proofs.Alike.{members_are_queries, members_are_wide, certain_rows}
use Rattle.proof_search.proofs.answer.Search.rows.Goals as goal

pub answers-requires-clause-queries : goal.answers-requires-clause-queries
answers-requires-clause-queries c =
    members_are_queries c.args.ontology.now c.args.cq.now c.as_slice-2.result.now c.requires.query
    c.requires.declared
    (subst (λ (ms : List Cq). Lists (Reachable (encoded c.args.ontology.now) c.args.cq.now) ms)
    (sym c.as_slice-2.ensures.keys) c.requires.rewriting.all)

pub answers-requires-clause-heads : goal.answers-requires-clause-heads
answers-requires-clause-heads c =
    subst (λ (h : List Term). All (λ (y : Cq). length y.head ≡ length h) c.as_slice-2.result.now)
    (sym c.as_slice.ensures)
    (members_are_wide c.args.ontology.now c.args.cq.now c.as_slice-2.result.now c.requires.query
    c.requires.declared
    (subst (λ (ms : List Cq). Lists (Reachable (encoded c.args.ontology.now) c.args.cq.now) ms)
    (sym c.as_slice-2.ensures.keys) c.requires.rewriting.all))

pub returns : goal.returns
returns c =
    let o = c.args.ontology.now in
    let q = c.args.cq.now in
    if_ok_both (λ (r : Relation). IsRising r.rows)
    (λ (r : Relation). (row : List IndId) → Contains r.rows row
    ↔ IsUnionAnswer c.args.index.now c.as_slice-2.result.now row)
    (λ (r : Relation). (facts : List Fact) → IsOverOntology c.args.ontology.now facts
    → HaveSame c.args.index.now facts
    → AreCertainRows c.args.ontology.now c.args.cq.now facts r.rows)
    (λ r rising member. certain_rows o q c.as_slice-2.result.now c.requires.query
    c.requires.declared
    (subst (λ (ms : List Cq). Lists (Reachable (encoded c.args.ontology.now) c.args.cq.now) ms)
    (sym c.as_slice-2.ensures.keys) c.requires.rewriting.all) c.args.index.now r.rows rising member)
    c.answers.result c.answers.ensures.rising c.answers.ensures.rows
