use Rattle.std.proofs.Common.{arith}
use Rattle.std.proofs.lemmas.Grind.{common_steps}
use Rattle.serde_json.specs.Data.{string}
use Rattle.report_text.proofs.ObjectTexts.{plain_object_is}
use Rattle.report_text.proofs.object.append_plain.Goals as goal

pub returns-clause-ok : goal.returns-clause-ok
returns-clause-ok c = rw (← plain_object_is c.args.line (string c.args.word.now))
    (grind (arith, common_steps))
