use Rattle.std.proofs.Common.{take, map}
use Rattle.std.specs.List.{Contains}
use Rattle.dl_syntax.specs.declared.facts.Element.TheVariants.{Ind as ind_element}
use Rattle.dl_syntax.specs.declared.facts.Fact.{Fact}
use Rattle.proof_search.specs.Serving.{ServesBy}
use Rattle.proof_search.proofs.walk.serving.Given as goal

abbrev pub invariant-loop-from : goal.invariant-loop-from
invariant-loop-from l = (f g : Fact) → Contains (take l.from-index l.known) f
    → ServesBy l.known l.null (map ind_element l.row) l.inclusion l.cq f g → ⊥
