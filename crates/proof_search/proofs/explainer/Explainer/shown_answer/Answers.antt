use Rattle.std.proofs.Common.{sym, subst, arith, ◌≤◌, length}
use Rattle.proof_search.specs.Explainer.{Explained}
use Rattle.proof_search.proofs.LeavesAt.{leaf_declared}
use Rattle.proof_search.proofs.Explained.{leaf_searched, short_within}
use Rattle.proof_search.proofs.explainer.Explainer.shown_answer.Goals as goal

pub returns-in_default-leaf_search-clause-exact : goal.returns-in_default-leaf_search-clause-exact
returns-in_default-leaf_search-clause-exact c =
    absurd (rw c.in_default-leaf_search.is at (leaf_searched c.self.inside.ontology
    c.self.inside.room c.self.inside.queries.items c.self.inside.leaves.items c.args.query
    c.args.leaf c.in-Some.cq.now _ c.self.invariant.leaf_searches
    (sym (rw c.deref.ensures.value at c.in-Some.ensures.same))
    (rw c.deref-2.ensures.value at c.leaf_search.ensures)))

pub answer-requires-clause-declared : goal.answer-requires-clause-declared
answer-requires-clause-declared c =
    (leaf_declared c.self.inside.ontology c.self.inside.queries.items c.args.query c.args.leaf
    c.in-Some.cq.now c.self.invariant.within.declared
    (sym (rw c.deref.ensures.value at c.in-Some.ensures.same))).predicates

pub answer-requires-clause-rewriting : goal.answer-requires-clause-rewriting
answer-requires-clause-rewriting c =
    let is = rw c.in-Some-leaf_search.is at (leaf_searched c.self.inside.ontology
    c.self.inside.room c.self.inside.queries.items c.self.inside.leaves.items c.args.query
    c.args.leaf c.in-Some.cq.now _ c.self.invariant.leaf_searches
    (sym (rw c.deref.ensures.value at c.in-Some.ensures.same))
    (rw c.deref-2.ensures.value at c.leaf_search.ensures)) in
    is.rewriting

pub answer-requires-clause-few : goal.answer-requires-clause-few
answer-requires-clause-few c =
    let is = rw c.in-Some-leaf_search.is at (leaf_searched c.self.inside.ontology
    c.self.inside.room c.self.inside.queries.items c.self.inside.leaves.items c.args.query
    c.args.leaf c.in-Some.cq.now _ c.self.invariant.leaf_searches
    (sym (rw c.deref.ensures.value at c.in-Some.ensures.same))
    (rw c.deref-2.ensures.value at c.leaf_search.ensures)) in
    omega (arith, is.few, c.self.invariant.small)

pub returns-clause-short : goal.returns-clause-short
returns-clause-short c =
    let is = rw c.in-Some-leaf_search.is at (leaf_searched c.self.inside.ontology
    c.self.inside.room c.self.inside.queries.items c.self.inside.leaves.items c.args.query
    c.args.leaf c.in-Some.cq.now _ c.self.invariant.leaf_searches
    (sym (rw c.deref.ensures.value at c.in-Some.ensures.same))
    (rw c.deref-2.ensures.value at c.leaf_search.ensures)) in
    short_within (length c.in-Some-leaf_search.search.now.reached.found.keys)
    c.args.self.now.room c.answer.result
    (subst (λ (e : Explained). length c.in-Some-leaf_search.search.now.reached.found.keys
    ≤ e.room) c.self.view_is is.few)
    c.answer.ensures.short
