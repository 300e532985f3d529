use Rattle.tcq_syntax.proofs.KeptBounds.{closed_kept_size, open_kept_size}
use Rattle.tcq_syntax.proofs.laws.kept_size_is_small.Goals as goal

pub returns-clause-closed : goal.returns-clause-closed
returns-clause-closed c = closed_kept_size

pub returns-clause-open_still : goal.returns-clause-open_still
returns-clause-open_still c = open_kept_size
