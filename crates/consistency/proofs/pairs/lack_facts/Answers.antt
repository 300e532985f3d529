use Rattle.std.proofs.Common.{subst}
use Rattle.std.specs.List.{Contains}
use Rattle.dl_syntax.specs.declared.queries.Atom.{Atom}
use Rattle.dl_syntax.specs.Match.{atom_at}
use Rattle.consistency.proofs.pairs.lack_facts.Goals as goal

pub returns-then-lack_straight : goal.returns-then-lack_straight
returns-then-lack_straight c = λ lost t here there.
    c.lack_straight.ensures lost t (subst (λ (a : Atom).
    Contains c.args.index.now (atom_at t a)) c.in-Role-Role.is-0 here)
    (subst (λ (a : Atom). Contains c.args.index.now (atom_at t a)) c.in-Role-Role.is-1 there)

pub returns-else-lack_straight : goal.returns-else-lack_straight
returns-else-lack_straight c = λ lost t here there.
    c.lack_turned.ensures lost t (subst (λ (a : Atom).
    Contains c.args.index.now (atom_at t a)) c.in-Role-Role.is-0 here)
    (subst (λ (a : Atom). Contains c.args.index.now (atom_at t a)) c.in-Role-Role.is-1 there)
