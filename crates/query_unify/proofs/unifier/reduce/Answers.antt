use Rattle.std.proofs.Common.{◌≡◌, List, get_or, length, ◌∙◌, ap, subst, arith}
use Rattle.dl_syntax.specs.declared.queries.Term.TheVariants.{Var}
use Rattle.dl_syntax.specs.declared.queries.Atom.{Atom}
use Rattle.dl_syntax.specs.declared.queries.Atom.TheVariants as atom
use Rattle.query_unify.specs.Substitution.{applied_query, IsMostGeneral, CannotUnify}
use Rattle.query_unify.specs.Bindings.{both_images}
use Rattle.query_unify.specs.Normal.{normalise, variables}
use Rattle.query_unify.proofs.Bound.{IsQuery-applied, variables-few}
use Rattle.query_unify.proofs.Reducts.{reduced, not_reduced}
use Rattle.query_unify.proofs.unifier.reduce.Goals as goal

pub into_normal-requires : goal.into_normal-requires
into_normal-requires c =
    let same : c.in_ok-applied-in-Some.applied
    ≡ applied_query (both_images c.in-Some.bindings) c.args.cq.now =
    c.in_ok-applied-in-Some.ensures in
    omega (
      arith,
      variables-few (applied_query (both_images c.in-Some.bindings) c.args.cq.now)
          (IsQuery-applied (both_images c.in-Some.bindings) c.args.cq.now c.requires.query),
      ap (λ q.
          length (variables q)) same,
    )

pub returns-in_ok-normal-in-Some : goal.returns-in_ok-normal-in-Some
returns-in_ok-normal-in-Some c =
    let d : Atom = atom.Concept (record { 0 = 0 }) (Var 0) in
    let k : _ = c.args.second in
    reduced c.args.first c.args.second c.args.cq.now d d (both_images c.in-Some.bindings)
    c.in_ok-normal-in-Some.normal (omega arith) (omega arith)
    (subst (λ (atoms : List Atom). IsMostGeneral (both_images c.in-Some.bindings)
    (get_or atoms c.args.first d) (get_or atoms c.args.second d)) c.as_slice-atoms.ensures
    c.in-Some.ensures.unifies)
    (c.in_ok-normal-in-Some.ensures ∙ ap normalise c.in_ok-applied-in-Some.ensures)

pub returns-in-None : goal.returns-in-None
returns-in-None c =
    let d : Atom = atom.Concept (record { 0 = 0 }) (Var 0) in
    not_reduced c.args.first c.args.second c.args.cq.now d d
    (subst (λ (atoms : List Atom). CannotUnify (get_or atoms c.args.first d)
    (get_or atoms c.args.second d)) c.as_slice-atoms.ensures c.in-None.ensures.unifies)
