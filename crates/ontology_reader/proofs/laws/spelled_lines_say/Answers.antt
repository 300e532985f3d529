use Rattle.ontology_reader.proofs.WordsWritten as written
use Rattle.ontology_reader.proofs.laws.spelled_lines_say.Goals as goal

pub returns : goal.returns
returns c = written.spelled_lines_say
