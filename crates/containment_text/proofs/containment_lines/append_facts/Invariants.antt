use Rattle.std.proofs.Common.{◌≡◌, ◌++◌, take, codes}
use Rattle.std.specs.Prelude.{flat_map}
use Rattle.containment_text.specs.Containments.{fact_text}
use Rattle.containment_text.proofs.containment_lines.append_facts.Given as goal

abbrev pub invariant-loop-fact : goal.invariant-loop-fact
invariant-loop-fact l = l.out.items ≡ l.initial.out.items
    ++ flat_map (λ f. codes " " ++ fact_text l.ontology f) (take l.fact-index l.facts)
