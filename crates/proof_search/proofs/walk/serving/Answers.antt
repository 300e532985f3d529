use Rattle.std.proofs.Common.{◌≡◌, take, arith}
use Rattle.std.proofs.lemmas.Grind.{common_steps}
use Rattle.std.proofs.lemmas.List.Elements.{Contains-get_or}
use Rattle.proof_search.proofs.Serves.{serves_by, none_more}
use Rattle.proof_search.proofs.walk.serving.Goals as goal

pub returns-then-branch : goal.returns-then-branch
returns-then-branch c =
    serves_by c.args.known.now c.args.null _ c.args.inclusion.now c.args.cq.now _
    c.made_by-made.result
    (Contains-get_or c.args.known.now c.loop-from.from-index _ c.loop-from-test.true)
    c.made_by-made.ensures (c.in_ok-serves.ensures.0 c.if-branch.true)

pub loop-from-preserved : goal.loop-from-preserved
loop-from-preserved c =
    none_more c.args.known.now c.args.null _ c.args.inclusion.now c.args.cq.now
    c.loop-from.from-index _ c.made_by-made.result c.loop-from-test.true c.loop-from.invariant
    c.made_by-made.ensures (λ h. let yes = c.in_ok-serves.ensures.1 h in cc)

pub returns : goal.returns
returns c = λ serves.
    let whole : take c.loop-from.from-index c.args.known.now ≡ c.args.known.now =
    grind (arith, common_steps) in
    (rw whole at c.loop-from.invariant) serves.0 serves.1 serves.2.there serves.2
