use Rattle.std.proofs.Common.{sym, subst}
use Rattle.serde_json.specs.View.{view}
use Rattle.snapshot_reader.specs.Written.{Line}
use Rattle.snapshot_reader.specs.Said.{line_says}
use Rattle.snapshot_reader.specs.Answers.{Tells}
use Rattle.snapshot_reader.proofs.JsonFacts.{value_writes, told_no_value}
use Rattle.snapshot_reader.proofs.json_lines.read_tree.Goals as goal

pub returns-in-Err : goal.returns-in-Err
returns-in-Err c = told_no_value c.args.ontology.now c.args.line.now c.in-Err.fault c.requires
    c.in-Err.ensures

pub returns : goal.returns
returns c =
    subst (λ (l : Line). Tells c.read_value.result (line_says c.args.ontology.now l))
    (sym (value_writes c.args.line.now (view c.in-Ok.value) c.requires c.in-Ok.ensures.0
    c.in-Ok.ensures.1)) c.read_value.ensures
