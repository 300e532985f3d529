use Rattle.tcq_grammar.proofs.Language as language
use Rattle.tcq_grammar.proofs.laws.spells_its_front.Goals as goal

pub returns : goal.returns
returns c = language.spells_its_front
