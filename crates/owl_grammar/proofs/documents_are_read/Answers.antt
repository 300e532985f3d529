use Rattle.owl_grammar.proofs.Documents as documents
use Rattle.owl_grammar.proofs.documents_are_read.Goals as goal

pub returns : goal.returns
returns c = documents.reads_documents
