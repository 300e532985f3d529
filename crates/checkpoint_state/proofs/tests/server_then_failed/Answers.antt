use Rattle.std.proofs.Common.{sym, subst}
use Rattle.tcq_syntax.specs.Tcq.{IsTcq}
use Rattle.tcq_syntax.proofs.Example.{is_tcq}
use Rattle.checkpoint_state.proofs.tests.server_then_failed.Goals as goal

pub new-requires-2 : goal.new-requires-2
new-requires-2 c = subst (IsTcq 1) (sym c.in_ok-nodes.ensures) is_tcq
