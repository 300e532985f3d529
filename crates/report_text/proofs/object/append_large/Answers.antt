use Rattle.std.proofs.Common.{arith}
use Rattle.std.specs.Prelude.{decimal}
use Rattle.std.proofs.lemmas.Grind.{common_steps}
use Rattle.serde_json.specs.Data.{string}
use Rattle.report_text.proofs.ObjectTexts.{large_object_is}
use Rattle.report_text.proofs.object.append_large.Goals as goal

pub returns-clause-ok : goal.returns-clause-ok
returns-clause-ok c =
    rw (← large_object_is c.args.line (string c.args.word.now) (string (decimal c.args.total)))
    (grind (arith, common_steps))
