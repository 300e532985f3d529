use Rattle.monitor_core.proofs.Seeing.{leaves_kept}
use Rattle.monitor_core.proofs.opening.sight_of.Goals as goal

pub returns-clause-leaves : goal.returns-clause-leaves
returns-clause-leaves c = leaves_kept c.see_leaves.new.sight c.see_clashes.new.sight
    c.in_ok-see_clashes.ensures.kept c.args.leaves.now c.in_ok-see_leaves.ensures
