use Rattle.std.proofs.Common.{◌≡◌, List, take}
use Rattle.std.specs.List.{All}
use Rattle.dl_syntax.specs.declared.names.IndId.{IndId}
use Rattle.answer_tables.specs.Tuples.{IsTuple, number}
use Rattle.answer_tables.specs.Substituting.{antichains_at}
use Rattle.answer_tables.proofs.substitute.value_links.Given as goal

abbrev pub invariant-loop-value : goal.invariant-loop-value
invariant-loop-value l = (tuple : List IndId)
    → All (λ v. IsTuple v.slots v.arity tuple × (number v.slots tuple ≡ l.rank)) l.values
    → l.links.items ≡ antichains_at (take l.value-index l.values) tuple
