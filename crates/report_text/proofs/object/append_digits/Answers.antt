use Rattle.std.proofs.Common.{sym, subst, ◌∙◌}
use Rattle.report_text.specs.Objects.{IsVerbatim}
use Rattle.report_text.proofs.Verbatim.{digits_are_verbatim}
use Rattle.report_text.proofs.object.append_digits.Goals as goal

pub append_string-requires : goal.append_string-requires
append_string-requires c = subst IsVerbatim (sym (c.as_bytes.ensures.value ∙ c.format.ensures.text))
    (digits_are_verbatim c.args.number c.ranges.number.fits)
