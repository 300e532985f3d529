use Rattle.std.proofs.Common.{◌≡◌, arith}
use Rattle.forms.specs.declared.StreamForm.TheVariants.{Text}
use Rattle.snapshot_reader.specs.Said.{said, says}
use Rattle.snapshot_reader.proofs.SaidFacts.{said_are_few}
use Rattle.verify_report.proofs.outcome.facts_outcome.Goals as goal

pub returns-in-Ok-Facts-clause-few : goal.returns-in-Ok-Facts-clause-few
returns-in-Ok-Facts-clause-few c =
    let is : said c.args.ontology.now Text c.args.line.now ≡ says c.in-Ok-Facts.facts =
    rw c.in-Ok-Facts.field-0-is at c.in-Ok-Facts.ensures in
    record {
      few_facts = said_are_few c.args.ontology.now Text c.args.line.now c.in-Ok-Facts.facts is;
      few_steps = grind (arith, c.from_vec.ensures, c.new.ensures.items);
    }
