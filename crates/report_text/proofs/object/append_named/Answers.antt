use Rattle.std.proofs.Common.{arith}
use Rattle.std.proofs.lemmas.Grind.{common_steps}
use Rattle.serde_json.specs.Data.{string}
use Rattle.report_text.proofs.ObjectTexts.{named_object_is}
use Rattle.report_text.proofs.object.append_named.Goals as goal

pub returns-clause-ok : goal.returns-clause-ok
returns-clause-ok c =
    rw (← named_object_is c.args.line (string c.args.name.now) (string c.args.word.now))
    (grind (arith, common_steps))
