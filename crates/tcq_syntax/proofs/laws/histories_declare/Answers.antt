-- How histories go on with names.
use Rattle.tcq_syntax.proofs.Arrivals.{history_is_acceptable, history_is_declared, names_continue}
use Rattle.tcq_syntax.proofs.laws.histories_declare.Goals as goal

pub returns : goal.returns
returns c = record {
  acceptable = history_is_acceptable;
  declared = history_is_declared;
  names = names_continue;
}
