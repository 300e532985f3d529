use Rattle.tcq_grammar.proofs.Language as language
use Rattle.tcq_grammar.proofs.laws.one_file.Goals as goal

pub returns : goal.returns
returns c = λ f g h k e. language.one_file f g h k e
