use Rattle.std.proofs.lemmas.Result.{IfOk-weaker}
use Rattle.checkpoint_reader.proofs.Verdicts.{whole_read}
use Rattle.checkpoint_reader.proofs.reading.read.Goals as goal

pub returns-clause-ok : goal.returns-clause-ok
returns-clause-ok c =
    IfOk-weaker c.read_rest.result _ _ (λ d read. whole_read _ d read) c.read_rest.ensures.ok
