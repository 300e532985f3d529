use Rattle.checkpoint_reader.specs.Lines.{IsNameLine}
use Rattle.checkpoint_reader.proofs.Progressing.{other_line}
use Rattle.checkpoint_reader.proofs.names.read_name.Goals as goal

pub returns-in_default-name_on : goal.returns-in_default-name_on
returns-in_default-name_on c =
    other_line (IsNameLine c.args.job.now.ontology.now c.args.job.now.queries.now c.args.came.now)
    c.args.job.now.bytes.now c.args.place c.in-Some.next c.in-Some.line.now c.in-Some.ensures
    c.in_default-name_on.ensures
