use Rattle.forms.specs.declared.StreamForm.TheVariants as form
use Rattle.snapshot_reader.proofs.SaidFacts.{said_are_declared, said_are_distinct, said_are_few}
use Rattle.certificate_laws.proofs.SnapshotLines.{snapshot_said}
use Rattle.certificate_laws.proofs.SnapshotLengths.{snapshot_short}
use Rattle.certificate_laws.proofs.laws.snapshots_are_read.Goals as goal

pub returns : goal.returns
returns c = λ o sound line facts is. (
  snapshot_said o sound facts (said_are_declared o form.Text line facts is)
      (said_are_distinct o form.Text line facts is).distinct
      (said_are_few o form.Text line facts is),
  snapshot_short o line facts is,
)
