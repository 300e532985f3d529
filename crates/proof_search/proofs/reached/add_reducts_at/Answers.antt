use Rattle.std.proofs.Common.{◌≡◌, ℕ, [], subst, arith}
use Rattle.query_unify.specs.Reach.{Reduces}
use Rattle.perfect_ref.specs.Found.{Somewhere}
use Rattle.proof_search.specs.Reached.{Grows}
use Rattle.proof_search.proofs.Growing.{grows_start, grows_next, at_still}
use Rattle.proof_search.proofs.reached.add_reducts_at.Goals as goal

pub loop-first-init : goal.loop-first-init
loop-first-init c = λ inclusions.
    grows_start inclusions (λ j. Reduces j c.args.second c.args.cq.now)
    c.args.reached.now.found.keys c.args.reached.now.links.items

pub add_reduct-requires-clause-at : goal.add_reduct-requires-clause-at
add_reduct-requires-clause-at c =
    at_still [] _ c.args.reached.now.found.keys c.loop-first.reached.found.keys
    c.args.reached.now.links.items c.loop-first.reached.links.items c.args.from c.args.cq.now
    c.requires.at (c.loop-first.invariant [])

pub loop-first-preserved : goal.loop-first-preserved
loop-first-preserved c = λ inclusions.
    grows_next inclusions c.args.reached.now.found.keys c.loop-first.reached.found.keys _
    c.args.reached.now.links.items c.loop-first.reached.links.items _
    (λ j. Reduces j c.args.second c.args.cq.now) c.loop-first.first
    (c.loop-first.invariant inclusions) (c.in_ok-add_reduct.ensures inclusions)

pub returns : goal.returns
returns c = λ inclusions.
    let at : c.loop-first.first ≡ c.args.second = omega arith in
    subst (λ (n : ℕ). Grows inclusions (Somewhere (λ j. Reduces j c.args.second c.args.cq.now) n)
    c.args.reached.now.found.keys
    c.args.reached.now.links.items c.loop-first.reached.found.keys
    c.loop-first.reached.links.items) at (c.loop-first.invariant inclusions)
