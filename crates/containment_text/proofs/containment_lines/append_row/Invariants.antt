use Rattle.std.proofs.Common.{◌≡◌, ◌++◌, take, codes}
use Rattle.std.specs.Prelude.{flat_map}
use Rattle.containment_text.specs.Containments.{individual_text}
use Rattle.containment_text.proofs.containment_lines.append_row.Given as goal

abbrev pub invariant-loop-id : goal.invariant-loop-id
invariant-loop-id l = l.out.items ≡ l.initial.out.items
    ++ flat_map (λ i. codes " " ++ individual_text l.ontology i) (take l.id-index l.row)
