use Rattle.std.proofs.Common.{arith}
use Rattle.std.proofs.lemmas.Grind.{common_steps}
use Rattle.report_text.proofs.Verbatim.{verbatim_text}
use Rattle.report_text.proofs.object.append_string.Goals as goal

pub returns-clause-ok : goal.returns-clause-ok
returns-clause-ok c = rw (← verbatim_text c.args.text.now c.requires) (grind (arith, common_steps))
