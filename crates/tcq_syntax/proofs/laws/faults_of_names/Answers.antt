-- Which name is at fault.
use Rattle.tcq_syntax.proofs.Arrivals.{no_fault_may_follow, one_first_fault, none_is_at_fault}
use Rattle.tcq_syntax.proofs.laws.faults_of_names.Goals as goal

pub returns : goal.returns
returns c = record {
  none = no_fault_may_follow;
  one = one_first_fault;
  acceptable = none_is_at_fault;
}
