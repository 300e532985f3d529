use Rattle.std.proofs.Common.{◌≤◌, ◌-◌, length, drop}
use Rattle.run_proofs.specs.Texts.{individual_text}
use Rattle.run_proofs.specs.Writable.{IsNamed}
use Rattle.run_proofs.proofs.Spread.{HasRead}
use Rattle.run_proofs.proofs.listing.read_individuals.Given as goal

abbrev pub invariant-loop-place : goal.invariant-loop-place
invariant-loop-place l = record {
  within : l.place ≤ length l.text;
  read : HasRead (individual_text l.ontology.individuals) (IsNamed l.ontology) l.text
      l.row.items (drop l.place l.text);
}

abbrev pub decreases-loop-place : goal.decreases-loop-place
decreases-loop-place l = length l.text - l.place
