use Rattle.std.proofs.Common.{sym, ◌∙◌}
use Rattle.perfect_ref.proofs.Collected.{cq_exact}
use Rattle.monitor_core.proofs.gathering.asks.Goals as goal

pub returns : goal.returns
returns c = (
  λ is. (cq_exact c.args.leaf.now.query c.args.query.now).0 (sym c.eq.ensures ∙ is),
  λ same. c.eq.ensures ∙ (cq_exact c.args.leaf.now.query c.args.query.now).1 same,
)
