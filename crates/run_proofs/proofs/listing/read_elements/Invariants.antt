use Rattle.std.proofs.Common.{◌≤◌, ◌-◌, length, drop}
use Rattle.run_proofs.specs.Texts.{element_text, IsWritable}
use Rattle.run_proofs.proofs.Spread.{HasRead}
use Rattle.run_proofs.proofs.listing.read_elements.Given as goal

abbrev pub invariant-loop-place : goal.invariant-loop-place
invariant-loop-place l = record {
  within : l.place ≤ length l.text;
  read : HasRead (element_text l.ontology.individuals) (IsWritable l.ontology.individuals) l.text
      l.elements.items (drop l.place l.text);
}

abbrev pub decreases-loop-place : goal.decreases-loop-place
decreases-loop-place l = length l.text - l.place
