use Rattle.std.proofs.Common.{List, sym, subst}
use Rattle.dl_syntax.specs.declared.facts.Fact.{Fact}
use Rattle.dl_syntax.specs.declared.queries.Cq.{Cq}
use Rattle.dl_syntax.specs.Match.{Match}
use Rattle.consistency.specs.Asking.{sides}
use Rattle.proof_search.specs.declared.bindings.Binding.{Binding}
use Rattle.proof_search.specs.Bindings.{assigned_by}
use Rattle.proof_search.proofs.meets.places_in.Goals as goal

pub places_of-requires-clause-matches : goal.places_of-requires-clause-matches
places_of-requires-clause-matches c =
    let is = rw c.in-Some.is at c.in_ok-bindings.ensures in
    let known : Match c.args.query.now.body c.args.walk.now.known.items
    (assigned_by c.in-Some.bindings.items) =
    subst (λ (facts : List Fact). Match c.args.query.now.body facts
    (assigned_by c.in-Some.bindings.items)) c.as_slice.ensures.value is.match in
    subst (λ (bs : List Binding). Match (sides c.args.clash.now) c.as_slice-in-Some.result.now
    (assigned_by bs)) (sym c.as_slice-in-Some-2.ensures.value)
    (subst (λ (run : List Fact). Match (sides c.args.clash.now) run
    (assigned_by c.in-Some.bindings.items)) (sym c.as_slice-in-Some.ensures.value)
    (subst (λ (q : Cq). Match q.body c.args.walk.now.run.items
    (assigned_by c.in-Some.bindings.items)) c.requires.query
    (c.requires.kept (assigned_by c.in-Some.bindings.items) known)))
