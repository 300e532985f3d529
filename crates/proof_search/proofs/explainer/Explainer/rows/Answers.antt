use Rattle.std.proofs.Common.{sym, subst, arith, List}
use Rattle.std.specs.Prelude.{IfOk}
use Rattle.dl_syntax.specs.declared.facts.Fact.{Fact}
use Rattle.dl_syntax.specs.Encode.{IsOverOntology}
use Rattle.dl_syntax.specs.Rows.{Relation}
use Rattle.perfect_ref.proofs.Reached.{if_ok_weaker}
use Rattle.proof_search.specs.Explainer.{Explained, AreLeafRows}
use Rattle.proof_search.specs.Explaining.{HaveSame, AreCertainRows}
use Rattle.proof_search.proofs.LeavesAt.{leaf_declared}
use Rattle.proof_search.proofs.Explained.{leaf_searched, leaf_is_short, certain_leaf_rows}
use Rattle.proof_search.proofs.explainer.Explainer.rows.Goals as goal

pub returns-in_default-leaf_search : goal.returns-in_default-leaf_search
returns-in_default-leaf_search c =
    absurd (rw c.in_default-leaf_search.is at (leaf_searched c.self.inside.ontology
    c.self.inside.room c.self.inside.queries.items c.self.inside.leaves.items c.args.query
    c.args.leaf c.in-Some.cq.now _ c.self.invariant.leaf_searches
    (sym (rw c.deref.ensures.value at c.in-Some.ensures.same))
    (rw c.deref-2.ensures.value at c.leaf_search.ensures)))

pub rows-requires-clause-short : goal.rows-requires-clause-short
rows-requires-clause-short c =
    omega (
      arith,
      leaf_is_short c.self.inside.queries.items c.args.query c.args.leaf c.in-Some.cq.now
          c.self.invariant.tables (sym (rw c.deref.ensures.value at c.in-Some.ensures.same)),
    )

pub rows-requires-clause-declared : goal.rows-requires-clause-declared
rows-requires-clause-declared c =
    (leaf_declared c.self.inside.ontology c.self.inside.queries.items c.args.query c.args.leaf
    c.in-Some.cq.now c.self.invariant.within.declared
    (sym (rw c.deref.ensures.value at c.in-Some.ensures.same))).predicates

pub rows-requires-clause-rewriting : goal.rows-requires-clause-rewriting
rows-requires-clause-rewriting c =
    let is = rw c.in-Some-leaf_search.is at (leaf_searched c.self.inside.ontology
    c.self.inside.room c.self.inside.queries.items c.self.inside.leaves.items c.args.query
    c.args.leaf c.in-Some.cq.now _ c.self.invariant.leaf_searches
    (sym (rw c.deref.ensures.value at c.in-Some.ensures.same))
    (rw c.deref-2.ensures.value at c.leaf_search.ensures)) in
    is.rewriting

pub returns : goal.returns
returns c =
    subst
    (λ (e : Explained). IfOk c.rows.result (λ (r : Relation). (facts : List Fact)
    → IsOverOntology e.ontology facts → HaveSame c.args.index.now facts
    → AreLeafRows e.ontology e.queries facts c.args.query c.args.leaf r.rows))
    c.self.view_is
    (if_ok_weaker
    (λ (r : Relation). (facts : List Fact) → IsOverOntology c.self.inside.ontology facts
    → HaveSame c.args.index.now facts
    → AreCertainRows c.self.inside.ontology c.in-Some.cq.now facts r.rows)
    (λ (r : Relation). (facts : List Fact) → IsOverOntology c.self.inside.ontology facts
    → HaveSame c.args.index.now facts
    → AreLeafRows c.self.inside.ontology c.self.inside.queries.items facts c.args.query
    c.args.leaf r.rows)
    (λ r are facts over same. certain_leaf_rows c.self.inside.ontology
    c.self.inside.queries.items facts c.args.query c.args.leaf c.in-Some.cq.now r.rows
    (sym (rw c.deref.ensures.value at c.in-Some.ensures.same)) (are facts over same))
    c.rows.result c.rows.ensures)
