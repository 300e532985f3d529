use Rattle.std.proofs.Common.{sym, subst}
use Rattle.proof_search.specs.Explaining.{HaveSame}
use Rattle.explain_report.proofs.proof_lines.append_shown.Goals as goal

pub show-requires-clause-same : goal.show-requires-clause-same
show-requires-clause-same c =
    subst (HaveSame c.args.source.now.index.now) (sym c.facts-facts.ensures.same)
    c.requires.source.same
