-- What is left of an ontology is one.
use Rattle.std.proofs.Common.{ℕ, List, sym, subst}
use Rattle.dl_syntax.specs.Ontology.{Declared, IsOntology}
use Rattle.dl_syntax.proofs.Further.{fewer_individuals}
use Rattle.dl_syntax.proofs.ontology.Ontology.keep_individuals.Goals as goal

pub invariant_of-self : goal.invariant_of-self
invariant_of-self c =
    let o : Declared = record {
      concepts = c.self.inside.concepts;
      roles =
          c.self.inside.roles;
      individuals = c.self.inside.individuals;
      inclusions =
          c.self.inside.inclusions.items;
      clashes = c.self.inside.clashes.items;
    } in
    subst (λ (l : List (List ℕ)). IsOntology (record o { individuals = l }))
    (sym c.truncate.ensures) (fewer_individuals o c.args.count c.self.invariant)
