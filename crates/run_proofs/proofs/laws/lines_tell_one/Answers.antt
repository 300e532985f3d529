use Rattle.run_proofs.proofs.OneReading.{one_step, one_pair_of_places}
use Rattle.run_proofs.proofs.OneLine.{one_goal_told, one_ending_told}
use Rattle.run_proofs.proofs.laws.lines_tell_one.Goals as goal

pub returns-clause-step : goal.returns-clause-step
returns-clause-step c = one_step

pub returns-clause-places : goal.returns-clause-places
returns-clause-places c = one_pair_of_places

pub returns-clause-goal : goal.returns-clause-goal
returns-clause-goal c = one_goal_told

pub returns-clause-ending : goal.returns-clause-ending
returns-clause-ending c = one_ending_told
