use Rattle.std.proofs.Common.{[], sym, subst}
use Rattle.dl_syntax.specs.declared.queries.Cq.{Cq}
use Rattle.dl_syntax.specs.Encode.{IsQueryOver}
use Rattle.dl_syntax.specs.Match.{Certain}
use Rattle.proof_search.proofs.Meeting.{query_over, not_met}
use Rattle.proof_search.proofs.ShownRuns.{match_in_run}
use Rattle.proof_search.proofs.meets.meeting_shown.Goals as goal

pub returns-in_default-clause-exact : goal.returns-in_default-clause-exact
returns-in_default-clause-exact c =
    let none = rw c.in_default.is at c.in_ok-walk.ensures.exact in
    not_met c.args.ontology.now c.args.facts.now c.args.clash.now
    (subst (λ (q : Cq). Certain c.args.ontology.now.inclusions q c.args.facts.now [] → ⊥)
    c.in_ok-query.ensures none)

pub places_in-requires-clause-kept : goal.places_in-requires-clause-kept
places_in-requires-clause-kept c = λ t match.
    let walk = rw c.in-Some.is at c.in_ok-walk.ensures.exact in
    match_in_run c.args.ontology.now c.in-Some.walk.run.items c.in-Some.walk.known.items walk.kept
    c.in_ok-query.query.body
    (subst (IsQueryOver c.args.ontology.now) (sym c.in_ok-query.ensures)
    (query_over c.args.ontology.now c.args.clash.now c.requires.declared)) t match
