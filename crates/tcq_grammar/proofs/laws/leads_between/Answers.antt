use Rattle.tcq_grammar.proofs.Language as language
use Rattle.tcq_grammar.proofs.laws.leads_between.Goals as goal

pub returns : goal.returns
returns c = language.leads_between
