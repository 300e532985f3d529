use Rattle.checkpoint_reader.specs.Lines.{BeginsWith}
use Rattle.checkpoint_reader.proofs.Progressing.{other_line}
use Rattle.checkpoint_reader.proofs.line.read_word.Goals as goal

pub returns-in_default-rest_of : goal.returns-in_default-rest_of
returns-in_default-rest_of c =
    other_line (BeginsWith c.args.word.now) c.args.bytes.now c.args.place c.in-Some.next
    c.in-Some.line.now c.in-Some.ensures (λ told. c.in_default-rest_of.ensures told.0 told.1)
