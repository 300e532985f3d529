use Rattle.std.proofs.Common.{◌≡◌, ◌++◌, take}
use Rattle.run_proofs.specs.Texts.{row_text}
use Rattle.run_proofs.proofs.whole.append_row.Given as goal

abbrev pub invariant-loop-individual : goal.invariant-loop-individual
invariant-loop-individual l = l.out.items
    ≡ l.initial.out.items ++ row_text l.ontology.individuals (take l.individual-index l.row)
