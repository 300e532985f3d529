use Rattle.std.proofs.Common.{◌≡◌, take, map}
use Rattle.dl_syntax.specs.declared.facts.Element.TheVariants.{Ind as ind_element}
use Rattle.dl_syntax.specs.Match.{term_at}
use Rattle.run_proofs.specs.Assigned.{assigned}
use Rattle.run_proofs.proofs.matching.is_row.Given as goal

abbrev pub invariant-loop-place : goal.invariant-loop-place
invariant-loop-place l = map (term_at (assigned l.variables l.elements)) (take l.place l.head)
    ≡ map ind_element (take l.place l.row)
