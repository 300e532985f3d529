use Rattle.std.proofs.Common.{◌≡◌}
use Rattle.forms.specs.declared.StreamForm.TheVariants.{Text}
use Rattle.snapshot_reader.specs.Said.{said, says}
use Rattle.snapshot_reader.proofs.SaidFacts.{said_are_declared, said_are_few}
use Rattle.explain_report.proofs.outcome.text_outcome.Goals as goal

pub returns-in-Ok-Facts-clause-known : goal.returns-in-Ok-Facts-clause-known
returns-in-Ok-Facts-clause-known c =
    let is : said c.args.ontology.now Text c.args.line.now ≡ says c.in-Ok-Facts.snapshot =
    rw c.in-Ok-Facts.field-0-is at c.in-Ok-Facts.ensures in (
      said_are_declared c.args.ontology.now Text c.args.line.now c.in-Ok-Facts.snapshot is,
      said_are_few c.args.ontology.now Text c.args.line.now c.in-Ok-Facts.snapshot is,
    )
