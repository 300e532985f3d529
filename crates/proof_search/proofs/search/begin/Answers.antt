use Rattle.proof_search.proofs.ShownRuns.{known_gives, known_within}
use Rattle.proof_search.proofs.search.begin.Goals as goal

pub returns-clause-known : goal.returns-clause-known
returns-clause-known c = λ row is.
    known_gives c.args.member.now c.args.facts.now row c.args.bindings.now _
    (rw c.as_slice.ensures at c.in_ok-known.ensures) is

pub returns-clause-within : goal.returns-clause-within
returns-clause-within c = λ row is.
    known_within c.args.member.now c.args.facts.now row c.args.bindings.now _
    (rw c.as_slice.ensures at c.in_ok-known.ensures) is
