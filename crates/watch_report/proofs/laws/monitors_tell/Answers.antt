use Rattle.watch_report.proofs.StoodFor as proofs
use Rattle.watch_report.proofs.laws.monitors_tell.Goals as goal

pub returns : goal.returns
returns c = proofs.monitors_tell
