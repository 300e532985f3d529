use Rattle.std.proofs.Common.{◌≤◌, subst}
use Rattle.monitor_core.specs.Keeping.{Monitored}
use Rattle.monitor_core.specs.Standing.{HoldsSize, setting_of, units_in}
use Rattle.monitor_core.proofs.Sizes.{held_few, held_size}
use Rattle.monitor_core.proofs.monitor.Monitor.held.Goals as goal

pub returns-clause-kept : goal.returns-clause-kept
returns-clause-kept c =
    subst (λ (m : Monitored). HoldsSize m c.set_count.result) c.self.view_is
    (λ history stands. held_size (record {
      plan = c.self.inside.plan;
      state = c.self.inside.state;
      strangers = c.self.inside.strangers;
      declared = c.self.inside.declared;
    }) history c.set_count.result c.self.invariant c.set_count.ensures.total
    stands)

pub returns-clause-few : goal.returns-clause-few
returns-clause-few c =
    subst (λ (m : Monitored). c.set_count.result ≤ units_in (setting_of m)) c.self.view_is
    (held_few (record {
      plan = c.self.inside.plan;
      state = c.self.inside.state;
      strangers = c.self.inside.strangers;
      declared = c.self.inside.declared;
    }) c.set_count.result c.self.invariant c.set_count.ensures.total
    c.set_count.ensures.antichains)
