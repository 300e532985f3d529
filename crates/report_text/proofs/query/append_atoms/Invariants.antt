use Rattle.std.proofs.Common.{◌≡◌, ◌++◌, take}
use Rattle.std.specs.Prelude.{codes, flat_map}
use Rattle.report_text.specs.Queries.{atom_text}
use Rattle.report_text.proofs.query.append_atoms.Given as goal

abbrev pub invariant-loop-atom : goal.invariant-loop-atom
invariant-loop-atom l = l.out.items ≡ l.initial.out.items
    ++ flat_map (λ atom. codes ", " ++ atom_text l.ontology atom) (take l.atom-index l.atoms)
