use Rattle.std.proofs.Common.{ap}
use Rattle.monitor_core.specs.Keeping.{Monitored}
use Rattle.monitor_core.specs.Standing.{setting_of}
use Rattle.monitor_core.proofs.monitor.Monitor.ontology.Goals as goal

pub returns : goal.returns
unfolding setting_of
returns c = ap (λ (m : Monitored). (setting_of m).ontology) c.self.view_is
