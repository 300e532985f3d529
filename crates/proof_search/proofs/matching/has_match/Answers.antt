use Rattle.proof_search.proofs.Matched.{decided}
use Rattle.proof_search.proofs.matching.has_match.Goals as goal

pub returns : goal.returns
returns c = rw c.is_some.ensures (decided c.args.cq.now c.args.facts.now c.args.row.now
    c.in_ok-found.found c.in_ok-found.ensures)
