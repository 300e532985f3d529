use Rattle.std.proofs.Common.{◌≡◌, take, arith}
use Rattle.std.proofs.lemmas.Grind.{common_steps}
use Rattle.proof_search.proofs.Matched.{absent_more}
use Rattle.proof_search.proofs.walk.place_of.Goals as goal

pub loop-place-preserved : goal.loop-place-preserved
loop-place-preserved c = λ there.
    absent_more c.args.run.now c.loop-place.place _ c.args.fact.now c.loop-place-test.true
    c.loop-place.invariant (λ same. let yes = c.is_same.ensures.1 same in cc) there

pub returns : goal.returns
returns c =
    let whole : take c.loop-place.place c.args.run.now ≡ c.args.run.now =
    grind (arith, common_steps) in
    absurd ((rw whole at c.loop-place.invariant) c.requires.there)
