use Rattle.std.proofs.Common.{◌≡◌, List, sym, ◌∙◌, subst}
use Rattle.dl_syntax.specs.declared.queries.Atom.{Atom}
use Rattle.query_unify.specs.Normal.{first_places, same_atom}
use Rattle.query_unify.proofs.Numbered.{normalise-counted}
use Rattle.query_unify.proofs.normal.is_normal.Goals as goal

pub returns-then-is_some : goal.returns-then-is_some
returns-then-is_some c = λ distinct.
    normalise-counted c.args.cq.now c.count_in_order.result c.count_in_order.ensures
    (sym c.is_some.ensures ∙ c.if-is_some.true)
    (subst (λ (atoms : List Atom). first_places same_atom atoms
    ≡ atoms) c.as_slice.ensures (c.are_distinct.ensures distinct))
