use Rattle.dl_syntax.specs.declared.queries.Atom.{Atom}
use Rattle.dl_syntax.specs.declared.queries.Atom.TheVariants as atom
use Rattle.dl_syntax.specs.declared.queries.Term.TheVariants as term
use Rattle.ucq_join.proofs.join.lacks_facts.Goals as goal

pub returns-then-lacks_fact : goal.returns-then-lacks_fact
returns-then-lacks_fact c h t match =
    let none : Atom = atom.Concept (record { 0 = 0 }) (term.Var 0) in
    c.lacks_fact.ensures c.if-lacks_fact.true t
    (match c.loop-atom.atom-index none c.loop-atom-test.true)
