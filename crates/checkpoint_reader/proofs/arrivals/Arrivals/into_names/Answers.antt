use Rattle.std.proofs.Common.{length, ap, arith}
use Rattle.dl_syntax.specs.Ontology.{Declared}
use Rattle.checkpoint_reader.proofs.arrivals.Arrivals.into_names.Goals as goal

pub returns-clause-few : goal.returns-clause-few
returns-clause-few c =
    omega (
      arith,
      c.drop.invariant.few_individuals,
      ap (λ (d : Declared). length d.individuals) c.drop.view_is,
      ap (λ (d : Declared). length d.individuals) c.self.invariant,
    )
