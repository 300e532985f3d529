use Rattle.std.proofs.Common.{◌≡◌, ◌++◌, take}
use Rattle.std.specs.Prelude.{flat_map}
use Rattle.run_proofs.specs.Texts.{fact_text}
use Rattle.run_proofs.proofs.printing.append_facts.Given as goal

abbrev pub invariant-loop-fact : goal.invariant-loop-fact
invariant-loop-fact l = l.out.items
    ≡ l.initial.out.items ++ flat_map (fact_text l.ontology) (take l.fact-index l.facts)
