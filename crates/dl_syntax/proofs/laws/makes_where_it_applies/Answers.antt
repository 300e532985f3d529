use Rattle.dl_syntax.proofs.RunLaws.{makes_where_it_applies}
use Rattle.dl_syntax.proofs.laws.makes_where_it_applies.Goals as goal

pub returns : goal.returns
returns c = makes_where_it_applies
