use Rattle.std.proofs.Common.{List, sym, subst}
use Rattle.dl_syntax.specs.declared.queries.Atom.{Atom}
use Rattle.dl_syntax.specs.Match.{Match}
use Rattle.consistency.proofs.first.matches.Goals as goal

pub returns-then-refutes : goal.returns-then-refutes
returns-then-refutes c = (
  λ h. absurd (cc),
  λ answer. absurd (c.refutes.ensures c.if-refutes.true c.args.index.now answer.assignment
      c.requires.marked (subst (λ (body : List Atom).
      Match body c.args.index.now answer.assignment) (sym c.as_slice.ensures) answer.match)),
)

pub returns-then-lacks_pair : goal.returns-then-lacks_pair
returns-then-lacks_pair c = (
  λ h. absurd (cc),
  λ answer. absurd (c.lacks_pair.ensures c.if-lacks_pair.true answer.assignment
      (subst (λ (body : List Atom). Match body c.args.index.now answer.assignment)
      (sym c.as_slice-2.ensures) answer.match)),
)
