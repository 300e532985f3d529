-- A query has no more variables than places.
use Rattle.std.proofs.Common.{◌*◌, ◌≤◌, List, [], ◌∷◌, length, arith}
use Rattle.dl_syntax.specs.declared.queries.Term.{Term}
use Rattle.dl_syntax.specs.declared.queries.Term.TheVariants.{Var, Ind}
use Rattle.dl_syntax.specs.declared.queries.Atom.{Atom}
use Rattle.dl_syntax.specs.declared.queries.Atom.TheVariants as atom
use Rattle.query_unify.specs.Normal.{variables_of, terms_of}

pub variables_of-short : (terms : List Term) → length (variables_of terms) ≤ length terms
variables_of-short [] = omega arith
variables_of-short (Var v ∷ terms) = omega (arith, variables_of-short terms)
variables_of-short (Ind i ∷ terms) = omega (arith, variables_of-short terms)

pub terms_of-short : (atoms : List Atom) → length (terms_of atoms) ≤ 2 * length atoms
terms_of-short [] = omega arith
terms_of-short (atom.Concept c x ∷ atoms) = omega (arith, terms_of-short atoms)
terms_of-short (atom.Role p x y ∷ atoms) = omega (arith, terms_of-short atoms)
