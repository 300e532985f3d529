use Rattle.std.proofs.Common.{ap, ◌∙◌, rules}
use Rattle.std.specs.Prelude.{Some}
use Rattle.serde_json.specs.View.{view}
use Rattle.snapshot_reader.proofs.JsonFacts.{named, unnamed}
use Rattle.snapshot_reader.proofs.json_lines.name_in.Goals as goal

pub returns-then-is_name : goal.returns-then-is_name
returns-then-is_name c =
    named (view c.args.value.now) c.as_bytes-text.result.now
    (ap Some c.as_bytes-text.ensures.value ∙ c.in_ok-as_str.ensures)
    (c.is_name.ensures.0 (search rules))

pub returns-else-is_name : goal.returns-else-is_name
returns-else-is_name c =
    unnamed (view c.args.value.now) c.as_bytes-text.result.now
    (ap Some c.as_bytes-text.ensures.value ∙ c.in_ok-as_str.ensures)
    (λ name. let passes = c.is_name.ensures.1 name in search rules)
