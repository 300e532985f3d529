use Rattle.std.proofs.Common.{sym, ap, subst}
use Rattle.monitor_core.specs.Keeping.{Monitored}
use Rattle.monitor_core.specs.Standing.{Stands}
use Rattle.monitor_core.proofs.monitor.Monitor.count.Goals as goal

pub returns-clause-state : goal.returns-clause-state
returns-clause-state c = ap (λ (m : Monitored). m.state.count) c.self.view_is

pub returns-clause-history : goal.returns-clause-history
returns-clause-history c = λ history stands.
    (subst (λ (m : Monitored). Stands m history) (sym c.self.view_is) stands).counted
