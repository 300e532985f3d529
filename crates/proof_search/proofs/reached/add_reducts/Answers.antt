use Rattle.std.proofs.Common.{◌≡◌, ℕ, [], length, ap, subst, arith}
use Rattle.perfect_ref.specs.Found.{Somewhere, IsReductAt}
use Rattle.proof_search.specs.Reached.{Grows}
use Rattle.proof_search.proofs.Growing.{grows_start, grows_next, at_still}
use Rattle.proof_search.proofs.reached.add_reducts.Goals as goal

pub loop-second-init : goal.loop-second-init
loop-second-init c = λ inclusions.
    grows_start inclusions (λ k. IsReductAt c.args.cq.now k) c.args.reached.now.found.keys
    c.args.reached.now.links.items

pub add_reducts_at-requires-clause-at : goal.add_reducts_at-requires-clause-at
add_reducts_at-requires-clause-at c =
    at_still [] _ c.args.reached.now.found.keys c.loop-second.reached.found.keys
    c.args.reached.now.links.items c.loop-second.reached.links.items c.args.from c.args.cq.now
    c.requires.at (c.loop-second.invariant [])

pub loop-second-preserved : goal.loop-second-preserved
loop-second-preserved c = λ inclusions.
    grows_next inclusions c.args.reached.now.found.keys c.loop-second.reached.found.keys _
    c.args.reached.now.links.items c.loop-second.reached.links.items _
    (λ k. IsReductAt c.args.cq.now k) c.loop-second.second
    (c.loop-second.invariant inclusions) (c.in_ok-add_reducts_at.ensures inclusions)

pub returns : goal.returns
returns c = λ inclusions.
    let count : length c.as_slice-count.result.now ≡ length c.args.cq.now.body =
    ap length c.as_slice-count.ensures in
    let at : c.loop-second.second ≡ length c.args.cq.now.body = omega arith in
    subst (λ (n : ℕ). Grows inclusions (Somewhere (λ k. IsReductAt c.args.cq.now k) n)
    c.args.reached.now.found.keys
    c.args.reached.now.links.items c.loop-second.reached.found.keys
    c.loop-second.reached.links.items) at (c.loop-second.invariant inclusions)
