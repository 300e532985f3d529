-- Answers to the goals of `is_matched`: the index has the same facts.
use Rattle.std.proofs.Common.{List, sym, ◌∙◌, subst}
use Rattle.std.specs.Prelude.{◌↔◌, IsTrue}
use Rattle.dl_syntax.specs.declared.names.IndId.{IndId}
use Rattle.ucq_join.specs.Answers.{IsUnionAnswer}
use Rattle.perfect_ref.proofs.Reached.{if_ok_weaker}
use Rattle.contain_test.proofs.Showing.{over_alike, met_matched, found_matched, lost_unmatched}
use Rattle.contain_test.proofs.deciding.is_matched.Goals as goal

pub returns-then-is_some-clause-matched : goal.returns-then-is_some-clause-matched
returns-then-is_some-clause-matched c = λ o prepared over.
    met_matched o c.args.frozen.now.facts c.in_ok-index.index c.in_ok-index.ensures.members over
    c.args.union.now
    c.args.frozen.now.row c.in_ok-first_clash.field-0 (sym c.is_some.ensures ∙ c.if-is_some.true)
    (c.in_ok-first_clash.ensures o prepared
    (over_alike o c.args.frozen.now.facts c.in_ok-index.index c.in_ok-index.ensures.members over))

pub returns-clause-matched : goal.returns-clause-matched
returns-clause-matched c =
    if_ok_weaker _ _
    (λ found tells o prepared over.
    found_matched o c.args.frozen.now.facts c.in_ok-index.index c.in_ok-index.ensures.members over
    c.args.union.now
    c.args.frozen.now.row found
    (subst (λ (row : List IndId). IsTrue found
    ↔ IsUnionAnswer c.in_ok-index.index c.args.union.now row)
    c.places.ensures tells))
    c.has_row_in_union.result c.has_row_in_union.ensures

pub returns-clause-unmatched : goal.returns-clause-unmatched
returns-clause-unmatched c =
    if_ok_weaker _ _
    (λ found tells o prepared over.
    lost_unmatched o c.args.frozen.now.facts c.in_ok-index.index c.in_ok-index.ensures.members over
    c.args.union.now
    c.args.frozen.now.row found
    (subst (λ (row : List IndId). IsTrue found
    ↔ IsUnionAnswer c.in_ok-index.index c.args.union.now row)
    c.places.ensures tells)
    c.in_ok-first_clash.field-0 (sym c.is_some.ensures ∙ c.if-is_some.false)
    (c.in_ok-first_clash.ensures o prepared
    (over_alike o c.args.frozen.now.facts c.in_ok-index.index c.in_ok-index.ensures.members over)))
    c.has_row_in_union.result c.has_row_in_union.ensures
