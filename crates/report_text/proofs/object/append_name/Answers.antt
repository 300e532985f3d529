use Rattle.report_text.proofs.Verbatim.{name_is_verbatim}
use Rattle.report_text.proofs.object.append_name.Goals as goal

pub append_string-requires : goal.append_string-requires
append_string-requires c = name_is_verbatim c.args.name.now c.requires
