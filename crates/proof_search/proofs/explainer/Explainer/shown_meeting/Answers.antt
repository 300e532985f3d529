use Rattle.std.proofs.Common.{sym, subst, arith, ◌≤◌, length}
use Rattle.proof_search.specs.Explainer.{Explained}
use Rattle.proof_search.proofs.Explained.{clash_searched, short_within}
use Rattle.proof_search.proofs.explainer.Explainer.shown_meeting.Goals as goal

pub returns-in_default-clash_search-clause-exact : goal.returns-in_default-clash_search-clause-exact
returns-in_default-clash_search-clause-exact c =
    absurd (rw c.in_default-clash_search.is at (clash_searched c.self.inside.ontology
    c.self.inside.room c.self.inside.meetings.items c.args.number c.in-Some.clash.now _
    c.self.invariant.clash_searches (sym c.in-Some.ensures.same)
    (rw c.deref.ensures.value at c.clash_search.ensures)))

pub meeting-requires-clause-rewriting : goal.meeting-requires-clause-rewriting
meeting-requires-clause-rewriting c =
    let is = rw c.in-Some-clash_search.is at (clash_searched c.self.inside.ontology
    c.self.inside.room c.self.inside.meetings.items c.args.number c.in-Some.clash.now _
    c.self.invariant.clash_searches (sym c.in-Some.ensures.same)
    (rw c.deref.ensures.value at c.clash_search.ensures)) in
    is.rewriting

pub meeting-requires-clause-few : goal.meeting-requires-clause-few
meeting-requires-clause-few c =
    let is = rw c.in-Some-clash_search.is at (clash_searched c.self.inside.ontology
    c.self.inside.room c.self.inside.meetings.items c.args.number c.in-Some.clash.now _
    c.self.invariant.clash_searches (sym c.in-Some.ensures.same)
    (rw c.deref.ensures.value at c.clash_search.ensures)) in
    omega (arith, is.few, c.self.invariant.small)

pub returns-clause-short : goal.returns-clause-short
returns-clause-short c =
    let is = rw c.in-Some-clash_search.is at (clash_searched c.self.inside.ontology
    c.self.inside.room c.self.inside.meetings.items c.args.number c.in-Some.clash.now _
    c.self.invariant.clash_searches (sym c.in-Some.ensures.same)
    (rw c.deref.ensures.value at c.clash_search.ensures)) in
    short_within (length c.in-Some-clash_search.search.now.reached.found.keys)
    c.args.self.now.room c.meeting.result
    (subst (λ (e : Explained). length c.in-Some-clash_search.search.now.reached.found.keys
    ≤ e.room) c.self.view_is is.few)
    c.meeting.ensures.short
