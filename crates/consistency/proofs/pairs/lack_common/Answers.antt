use Rattle.std.proofs.Common.{◌≡◌, refl}
use Rattle.std.specs.Prelude.{Bool, true, false, IsTrue, not}
use Rattle.consistency.proofs.PairMerge.{rises_role, role_has, common_pair}
use Rattle.consistency.proofs.pairs.lack_common.Goals as goal

turned_false : (b : Bool) → IsTrue (not b) → b ≡ false
turned_false true h = absurd (cc)
turned_false false h = refl

pub have_common-requires-clause-first : goal.have_common-requires-clause-first
have_common-requires-clause-first c =
    rises_role c.args.index.now c.args.first c.args.first false c.role-one.result.now
    c.role-one.ensures.members c.role-one.ensures.rising c.role-one.ensures.last_rising

pub have_common-requires-clause-second : goal.have_common-requires-clause-second
have_common-requires-clause-second c =
    rises_role c.args.index.now c.args.first c.args.second c.args.turned c.role-other.result.now
    c.role-other.ensures.members c.role-other.ensures.rising c.role-other.ensures.last_rising

pub returns-then-not-are_uneven : goal.returns-then-not-are_uneven
returns-then-not-are_uneven c = λ lost.
    let none : c.have_common.result ≡ false = turned_false c.have_common.result lost in
    common_pair c.args.first c.args.second c.args.turned c.args.index.now c.role-one.result.now
    c.role-other.result.now
    (role_has c.args.index.now c.args.first c.role-one.result.now c.role-one.ensures.members)
    (role_has c.args.index.now c.args.second c.role-other.result.now c.role-other.ensures.members)
    (c.have_common.ensures none)
