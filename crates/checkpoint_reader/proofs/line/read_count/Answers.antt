use Rattle.std.proofs.Common.{◌++◌, decimal}
use Rattle.checkpoint_reader.specs.Lines.{IsCounted}
use Rattle.checkpoint_reader.proofs.Cuts.{same_back}
use Rattle.checkpoint_reader.proofs.Progressing.{other_line}
use Rattle.checkpoint_reader.proofs.line.read_count.Goals as goal

pub returns-in_default : goal.returns-in_default
returns-in_default c line later is one told =
    c.in_default.ensures line later is one (decimal told.0, told.2)

pub returns-in_default-read_number : goal.returns-in_default-read_number
returns-in_default-read_number c =
    other_line (IsCounted c.args.word.now) c.args.bytes.now c.args.place c.in-Some.next
    (c.args.word.now ++ c.in-Some.text.now) c.in-Some.ensures
    (λ told. c.in_default-read_number.ensures told.0 told.1
    (same_back c.args.word.now c.in-Some.text.now (decimal told.0) told.2))
