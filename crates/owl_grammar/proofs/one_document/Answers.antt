use Rattle.owl_grammar.proofs.Documents as documents
use Rattle.owl_grammar.proofs.one_document.Goals as goal

pub returns : goal.returns
returns c = documents.one_document
