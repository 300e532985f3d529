use Rattle.std.proofs.Common.{◌≡◌, ◌++◌, ◌∷◌, take}
use Rattle.std.specs.Prelude.{flat_map}
use Rattle.run_proofs.specs.Texts.{element_text}
use Rattle.run_proofs.proofs.printing.append_elements.Given as goal

abbrev pub invariant-loop-element : goal.invariant-loop-element
invariant-loop-element l = l.out.items
    ≡ l.initial.out.items ++ flat_map (λ e. 32 ∷ element_text l.ontology.individuals e)
    (take l.element-index l.elements)
