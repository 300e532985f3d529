use Rattle.consistency.proofs.ClashQueries.{clash_is_asked as asked}
use Rattle.consistency.proofs.laws.clash_is_asked.Goals as goal

pub returns : goal.returns
returns c = asked
