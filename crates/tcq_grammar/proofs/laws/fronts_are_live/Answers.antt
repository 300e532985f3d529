use Rattle.tcq_grammar.proofs.Language.{live_begins, dead_begins_none}
use Rattle.tcq_grammar.proofs.laws.fronts_are_live.Goals as goal

pub returns-clause-live : goal.returns-clause-live
returns-clause-live c = λ text state e. live_begins text state e

pub returns-clause-dead : goal.returns-clause-dead
returns-clause-dead c = λ text e begins. dead_begins_none text e begins
