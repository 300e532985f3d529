use Rattle.std.proofs.Common.{arith}
use Rattle.dl_syntax.specs.declared.queries.Term.TheVariants.{Var}
use Rattle.dl_syntax.specs.declared.queries.Atom.{Atom}
use Rattle.dl_syntax.specs.declared.queries.Atom.TheVariants as atom
use Rattle.consistency.proofs.pairs.lacks_pair.Goals as goal

none : Atom
none = atom.Concept (record { 0 = 0 }) (Var 0)

pub returns-in-len2 : goal.returns-in-len2
unfolding none
returns-in-len2 c = λ lost t match. c.lack_facts.ensures lost t (match 0 none (omega arith))
    (match 1 none (omega arith))
