use Rattle.std.proofs.Common.{List, ◌≤◌, length, sym, subst}
use Rattle.std.specs.List.{All}
use Rattle.perfect_ref.proofs.Reached.{if_ok_weaker}
use Rattle.consistency.specs.declared.rewriting.Part.TheVariants.{Core}
use Rattle.consistency.specs.declared.rewriting.Rewriting.{Rewriting}
use Rattle.consistency.specs.Matching.{AsksForMatch, IsFirstMatch}
use Rattle.consistency.proofs.Meeting.{core_first, all_ask, few_rewritings, first_alike, on_part}
use Rattle.consistency.proofs.first.first_clash_closed.Goals as goal

pub first_match-requires-clause-few : goal.first_match-requires-clause-few
first_match-requires-clause-few c =
    subst (λ (rs : List Rewriting). length rs ≤ 4096) (sym c.rewritings.ensures.same)
    (few_rewritings c.args.clashes.now c.rewritings.ensures.sound)

pub first_match-requires-clause-ask : goal.first_match-requires-clause-ask
first_match-requires-clause-ask c =
    subst (λ (rs : List Rewriting). All (AsksForMatch Core) rs) (sym c.rewritings.ensures.same)
    (all_ask c.args.clashes.now Core c.rewritings.ensures.sound)

pub returns : goal.returns
returns c =
    if_ok_weaker _ _
    (λ first found o snapshot facts is over saturated agree.
    core_first c.args.clashes.now c.rewritings.ensures.sound o is snapshot over facts saturated
    first
    (first_alike facts c.args.index.now Core c.args.clashes.now.rewritings
    (on_part c.args.clashes.now facts c.args.index.now agree) first
    (subst (λ (rs : List Rewriting). IsFirstMatch c.args.index.now Core rs first)
    c.rewritings.ensures.same found)))
    c.first_match.result c.first_match.ensures
