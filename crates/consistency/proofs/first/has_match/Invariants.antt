use Rattle.consistency.proofs.Matches.{NoneMatches}
use Rattle.consistency.proofs.first.has_match.Given as goal

abbrev pub invariant-loop-query : goal.invariant-loop-query
invariant-loop-query l = NoneMatches l.index l.union l.query-index
