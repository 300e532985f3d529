use Rattle.std.proofs.Common.{◌≡◌, ℕ, ◌<◌, ◌≤◌, false, take}
use Rattle.std.specs.Prelude.{None}
use Rattle.dl_syntax.specs.Ontology.{with_individuals}
use Rattle.tcq_syntax.specs.Arrivals.{IsFaultAt}
use Rattle.declaring.proofs.declaring.add_names.Given as goal

abbrev pub invariant-loop-place : goal.invariant-loop-place
invariant-loop-place l = record {
  added : l.ontology ≡ with_individuals (take l.place l.names) l.fn.ontology;
  none : (k : ℕ) → k < l.place → IsFaultAt l.fn.ontology l.queries false l.names k None;
  few : l.place ≤ 4096;
}
