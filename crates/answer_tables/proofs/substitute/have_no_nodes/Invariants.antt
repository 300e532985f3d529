use Rattle.std.proofs.Common.{take}
use Rattle.std.specs.Prelude.{All}
use Rattle.answer_tables.specs.Substituting.{HasNoNode}
use Rattle.answer_tables.proofs.substitute.have_no_nodes.Given as goal

abbrev pub invariant-loop-link : goal.invariant-loop-link
invariant-loop-link l = All HasNoNode (take l.link-index l.links)
