use Rattle.watch_report.proofs.HistoryLaws as histories
use Rattle.watch_report.proofs.laws.histories_go_on.Goals as goal

pub returns : goal.returns
returns c = record { line = histories.histories_go_on; lines = histories.histories_are_told }
