use Rattle.proof_search.specs.Known.{facts_in}
use Rattle.proof_search.proofs.Matched.{not_headed, not_matched, matched}
use Rattle.proof_search.proofs.matching.find_match.Goals as goal

pub returns-in_default : goal.returns-in_default
returns-in_default c =
    let none = rw (c.in_default.is, c.as_slice.ensures) at c.in_ok-bindings.ensures in
    not_headed c.args.cq.now (facts_in c.args.known.now) c.args.row.now none

pub returns-then-branch : goal.returns-then-branch
returns-then-branch c =
    let bound = rw (c.in-Some.is, c.as_slice.ensures) at c.in_ok-bindings.ensures in
    let found = rw (c.if-branch.true, c.as_slice-2.ensures) at c.in_ok-bind_body.ensures.found in
    matched c.args.cq.now (facts_in c.args.known.now) c.args.row.now c.in-Some.bindings.items
    c.bind_body.new.bindings.items bound found.0

pub returns-else-branch : goal.returns-else-branch
returns-else-branch c =
    let bound = rw (c.in-Some.is, c.as_slice.ensures) at c.in_ok-bindings.ensures in
    let found = rw (c.if-branch.false, c.as_slice-2.ensures) at c.in_ok-bind_body.ensures.found in
    not_matched c.args.cq.now (facts_in c.args.known.now) c.args.row.now c.in-Some.bindings.items
    bound
    found.1
