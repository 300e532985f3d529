use Rattle.std.proofs.Common.{List, ◌≤◌, length, sym, subst}
use Rattle.std.specs.List.{All}
use Rattle.perfect_ref.proofs.Reached.{if_ok_weaker}
use Rattle.consistency.specs.declared.rewriting.Part.TheVariants.{Whole}
use Rattle.consistency.specs.declared.rewriting.Rewriting.{Rewriting}
use Rattle.consistency.specs.Matching.{AsksForMatch, IsFirstMatch}
use Rattle.consistency.proofs.Meeting.{whole_first, all_ask, few_rewritings}
use Rattle.consistency.proofs.first.first_clash.Goals as goal

pub first_match-requires-clause-few : goal.first_match-requires-clause-few
first_match-requires-clause-few c =
    subst (λ (rs : List Rewriting). length rs ≤ 4096) (sym c.rewritings.ensures.same)
    (few_rewritings c.args.clashes.now c.rewritings.ensures.sound)

pub first_match-requires-clause-ask : goal.first_match-requires-clause-ask
first_match-requires-clause-ask c =
    subst (λ (rs : List Rewriting). All (AsksForMatch Whole) rs) (sym c.rewritings.ensures.same)
    (all_ask c.args.clashes.now Whole c.rewritings.ensures.sound)

pub returns : goal.returns
returns c =
    if_ok_weaker _ _
    (λ first found o is over. whole_first c.args.clashes.now c.rewritings.ensures.sound o is
    c.args.index.now over first
    (subst (λ (rs : List Rewriting). IsFirstMatch c.args.index.now Whole rs first)
    c.rewritings.ensures.same found))
    c.first_match.result c.first_match.ensures
