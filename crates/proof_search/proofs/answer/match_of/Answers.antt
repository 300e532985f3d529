use Rattle.perfect_ref.proofs.Reached.{if_ok_weaker}
use Rattle.proof_search.proofs.ShownRuns.{is_match_by}
use Rattle.proof_search.proofs.answer.match_of.Goals as goal

pub returns-in-Some : goal.returns-in-Some
returns-in-Some c =
    let is = rw c.in-Some.is at c.in_ok-bindings.ensures in
    let are = rw c.as_slice.ensures at c.in_ok-variables.ensures in
    if_ok_weaker _ _
    (λ elements same. is_match_by c.args.cq.now c.args.facts.now c.args.row.now
    c.in_ok-variables.variables.items c.in-Some.bindings.items elements.items are is same)
    c.elements_of.result
    (rw (c.as_slice-in-Some.ensures.value, c.as_slice-in-Some-2.ensures.value) at
    c.elements_of.ensures)
