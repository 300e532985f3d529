use Rattle.std.proofs.Common.{sym, subst}
use Rattle.proof_search.specs.Explaining.{HaveSame}
use Rattle.proof_search.proofs.one_goal.shown_answer.Goals as goal

pub answer-requires-clause-same : goal.answer-requires-clause-same
answer-requires-clause-same c = subst (HaveSame c.in_ok-index.index) (sym c.facts.ensures.same)
    c.in_ok-index.ensures.members
