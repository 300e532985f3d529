use Rattle.std.proofs.Common.{refl, sym, subst, arith}
use Rattle.dl_syntax.specs.Queries.{IsQuery}
use Rattle.consistency.specs.Asking.{HasEmptyHead}
use Rattle.consistency.proofs.Matches.{NoneMatches-start, NoneMatches-next, NoneMatches-all}
use Rattle.consistency.proofs.Matches.{matches_here}
use Rattle.consistency.proofs.first.has_match.Goals as goal

pub matches-requires-clause-query : goal.matches-requires-clause-query
matches-requires-clause-query c =
    subst IsQuery (sym c.query-item.is)
    (c.requires.queries c.loop-query.query-index c.query-item.result c.loop-query-test.true)

pub matches-requires-clause-head : goal.matches-requires-clause-head
matches-requires-clause-head c =
    subst HasEmptyHead (sym c.query-item.is)
    (c.requires.heads c.loop-query.query-index c.query-item.result c.loop-query-test.true)

pub loop-query-init : goal.loop-query-init
loop-query-init c = NoneMatches-start c.args.index.now c.args.union.now

pub loop-query-preserved : goal.loop-query-preserved
loop-query-preserved c =
    NoneMatches-next c.args.index.now c.args.union.now c.loop-query.query-index c.query-item.result
    c.loop-query-test.true c.query-item.is
    (λ answer. let found = c.in_ok-matches.ensures.1 answer in let lost = c.if-branch.false in cc)
    c.loop-query.invariant

pub returns-then-branch : goal.returns-then-branch
returns-then-branch c = (
  λ _. matches_here c.args.index.now c.args.union.now c.loop-query.query-index
      c.query-item.result c.loop-query-test.true c.query-item.is
      (c.in_ok-matches.ensures.0 c.if-branch.true),
  λ _. refl,
)

pub returns : goal.returns
returns c = (
  λ h. absurd (cc),
  λ answer.
      absurd (NoneMatches-all c.args.index.now c.args.union.now c.loop-query.query-index
      (omega arith)
      c.loop-query.invariant answer),
)
