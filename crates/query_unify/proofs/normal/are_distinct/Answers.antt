use Rattle.std.proofs.Common.{◌≡◌, ◌∷◌, [], ◌++◌, ◌+◌, List, take, get_or, sym, ◌∙◌, ap, subst}
use Rattle.std.specs.List.{Contains}
use Rattle.std.proofs.lemmas.List.{take_more}
use Rattle.dl_syntax.specs.declared.queries.Term.TheVariants.{Var}
use Rattle.dl_syntax.specs.declared.queries.Atom.{Atom}
use Rattle.dl_syntax.specs.declared.queries.Atom.TheVariants as atom
use Rattle.query_unify.specs.Normal.{first_places, same_atom}
use Rattle.query_unify.proofs.FirstPlaces.{atoms-new}
use Rattle.query_unify.proofs.normal.are_distinct.Goals as goal

pub loop-place-preserved : goal.loop-place-preserved
loop-place-preserved c =
    let d : Atom = atom.Concept (record { 0 = 0 }) (Var 0) in
    let before : List Atom = take c.loop-place.place c.args.atoms.now in
    let a : Atom = get_or c.args.atoms.now c.loop-place.place d in
    let kept : first_places same_atom before ≡ before = c.loop-place.invariant in
    let more : take (c.loop-place.place + 1) c.args.atoms.now ≡ before ++ a ∷ [] =
    take_more c.args.atoms.now c.loop-place.place d c.loop-place-test.true in
    let none : Contains (first_places same_atom before) a → ⊥ = λ there.
    let found = c.has_atom.ensures.1 (subst (λ (atoms : List Atom). Contains atoms a) kept there) in
    let not_found = c.if-has_atom.false in
    absurd (cc) in
    ap (first_places same_atom) more ∙ atoms-new before a none ∙ ap (λ (atoms : List Atom).
    atoms ++ a ∷ []) kept ∙ sym more
