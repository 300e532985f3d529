use Rattle.std.proofs.Common.{sym, subst}
use Rattle.report_text.specs.Objects.{IsVerbatim}
use Rattle.report_text.proofs.Verbatim.{word_is_verbatim}
use Rattle.report_text.proofs.object.word_of_cause.Goals as goal

pub returns-clause-verbatim : goal.returns-clause-verbatim
returns-clause-verbatim c =
    subst IsVerbatim (sym c.word_of.ensures) (word_is_verbatim c.args.cause.now)
