use Rattle.std.proofs.Common.{sym, ◌∙◌}
use Rattle.run_proofs.proofs.Sides.{shared_pair, pair_shared}
use Rattle.run_proofs.proofs.matching.share_pair.Goals as goal

pub returns-in-Some-Some : goal.returns-in-Some-Some
returns-in-Some-Some c =
    let first = sym c.pair_in.ensures ∙ c.in-Some-Some.is-0 in
    let second = sym c.pair_in-2.ensures ∙ c.in-Some-Some.is-1 in (
      λ yes. shared_pair c.args.one.now c.args.other.now c.args.left.now c.args.right.now
          c.in-Some-Some.first c.in-Some-Some.second first second (c.is_same_pair.ensures.0 yes),
      λ sides. c.is_same_pair.ensures.1
          (pair_shared c.args.one.now c.args.other.now c.args.left.now c.args.right.now
          c.in-Some-Some.first c.in-Some-Some.second first second sides),
    )
