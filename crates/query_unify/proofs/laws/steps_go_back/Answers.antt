use Rattle.query_unify.proofs.Backwards.{replace_goes_back, reduce_goes_back}
use Rattle.query_unify.proofs.laws.steps_go_back.Goals as goal

pub returns-clause-replace : goal.returns-clause-replace
returns-clause-replace c = replace_goes_back

pub returns-clause-reduce : goal.returns-clause-reduce
returns-clause-reduce c = reduce_goes_back
