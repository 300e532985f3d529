use Rattle.progression.proofs.FitTests.{within_links}
use Rattle.progression.proofs.fitting.has_sets_within.Goals as goal

pub returns : goal.returns
returns c =
    let links = within_links c.args.table.now c.distinct_links.result.now c.args.own
    c.distinct_links.ensures.exact in
    (λ h. links.0 (c.are_within.ensures.0 h), λ within. c.are_within.ensures.1 (links.1 within))
