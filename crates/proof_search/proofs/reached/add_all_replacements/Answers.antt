use Rattle.std.proofs.Common.{◌≡◌, ℕ, length, ap, subst, arith}
use Rattle.perfect_ref.specs.Found.{Somewhere, IsReplacement}
use Rattle.proof_search.specs.Reached.{Grows}
use Rattle.proof_search.proofs.Growing.{grows_start, grows_next, at_still}
use Rattle.proof_search.proofs.reached.add_all_replacements.Goals as goal

pub loop-place-init : goal.loop-place-init
loop-place-init c =
    grows_start c.args.inclusions.now (IsReplacement c.args.inclusions.now c.args.cq.now)
    c.args.reached.now.found.keys c.args.reached.now.links.items

pub add_replacements-requires-clause-at : goal.add_replacements-requires-clause-at
add_replacements-requires-clause-at c =
    at_still c.args.inclusions.now _ c.args.reached.now.found.keys
    c.loop-place.reached.found.keys c.args.reached.now.links.items
    c.loop-place.reached.links.items c.args.from c.args.cq.now c.requires.at c.loop-place.invariant

pub loop-place-preserved : goal.loop-place-preserved
loop-place-preserved c =
    grows_next c.args.inclusions.now c.args.reached.now.found.keys
    c.loop-place.reached.found.keys _ c.args.reached.now.links.items
    c.loop-place.reached.links.items _ (IsReplacement c.args.inclusions.now c.args.cq.now)
    c.loop-place.place c.loop-place.invariant c.in_ok-add_replacements.ensures

pub returns : goal.returns
returns c =
    let count : length c.as_slice-count.result.now ≡ length c.args.cq.now.body =
    ap length c.as_slice-count.ensures in
    let at : c.loop-place.place ≡ length c.args.cq.now.body = omega arith in
    subst (λ (n : ℕ). Grows c.args.inclusions.now
    (Somewhere (IsReplacement c.args.inclusions.now c.args.cq.now) n)
    c.args.reached.now.found.keys c.args.reached.now.links.items c.loop-place.reached.found.keys
    c.loop-place.reached.links.items) at c.loop-place.invariant
