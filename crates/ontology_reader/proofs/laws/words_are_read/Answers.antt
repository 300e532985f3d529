use Rattle.ontology_reader.proofs.WordsWritten as written
use Rattle.ontology_reader.proofs.laws.words_are_read.Goals as goal

pub returns : goal.returns
returns c = written.words_are_read
