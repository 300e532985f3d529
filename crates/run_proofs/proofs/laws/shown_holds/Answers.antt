use Rattle.run_proofs.proofs.Showing.{shown_holds}
use Rattle.run_proofs.proofs.laws.shown_holds.Goals as goal

pub returns : goal.returns
returns c = shown_holds
