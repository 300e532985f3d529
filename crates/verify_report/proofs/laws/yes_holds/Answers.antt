use Rattle.verify_report.proofs.Verdicts.{yes_holds, no_shows_not}
use Rattle.verify_report.proofs.laws.yes_holds.Goals as goal

pub returns-clause-yes : goal.returns-clause-yes
returns-clause-yes c = yes_holds

pub returns-clause-no : goal.returns-clause-no
returns-clause-no c = no_shows_not
