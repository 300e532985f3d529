-- Unbound variables, and what an inclusion lets an atom become, after Calvanese, De Giacomo, Lembo,
-- Lenzerini and Rosati 2007.
use Rattle.std.specs.Prelude.{◌≡◌, ◌==◌, ℕ, ◌+◌, if◌then◌else◌, List, [], ◌∷◌}
use Rattle.dl_syntax.specs.declared.ontology.Role.{Role}
use Rattle.dl_syntax.specs.declared.ontology.Basic.{Basic}
use Rattle.dl_syntax.specs.declared.ontology.Basic.TheVariants as basic
use Rattle.dl_syntax.specs.declared.ontology.Inclusion.{Inclusion}
use Rattle.dl_syntax.specs.declared.ontology.Inclusion.TheVariants as inclusion
use Rattle.dl_syntax.specs.declared.queries.Term.{Term}
use Rattle.dl_syntax.specs.declared.queries.Term.TheVariants.{Var, Ind}
use Rattle.dl_syntax.specs.declared.queries.Atom.{Atom}
use Rattle.dl_syntax.specs.declared.queries.Atom.TheVariants as atom
use Rattle.dl_syntax.specs.declared.queries.Cq.{Cq}

-- how often the variable occurs
abbrev pub count_in_term : ℕ → Term → ℕ
count_in_term v (Var w) = if v == w then 1 else 0
count_in_term v (Ind i) = 0

abbrev pub count_in_terms : ℕ → List Term → ℕ
count_in_terms v [] = 0
count_in_terms v (x ∷ terms) = count_in_term v x + count_in_terms v terms

abbrev pub count_in_atom : ℕ → Atom → ℕ
count_in_atom v (atom.Concept c x) = count_in_term v x
count_in_atom v (atom.Role p x y) = count_in_term v x + count_in_term v y

abbrev pub count_in_atoms : ℕ → List Atom → ℕ
count_in_atoms v [] = 0
count_in_atoms v (a ∷ atoms) = count_in_atom v a + count_in_atoms v atoms

-- the variable is in no term of the head, and exactly once in the body
pub record IsUnbound (v : ℕ) (q : Cq) : Type 0 where
  pub head : count_in_terms v q.head ≡ 0
  pub body : count_in_atoms v q.body ≡ 1

-- the variable occurs nowhere in the query
pub record IsNew (v : ℕ) (q : Cq) : Type 0 where
  pub head : count_in_terms v q.head ≡ 0
  pub body : count_in_atoms v q.body ≡ 0

-- the atom that makes the two terms a pair of the role
abbrev pub role_atom : Role → Term → Term → Atom
role_atom r x y = if r.inverse then atom.Role r.id y x else atom.Role r.id x y

-- the atom of the basic concept at the term, where a variable that it wants is the new one
abbrev pub basic_atom : Basic → Term → ℕ → Atom
basic_atom (basic.Concept c) x new = atom.Concept c x
basic_atom (basic.Some r) x new = role_atom r x (Var new)

-- the atom of the query asks of the term no more than that it is in the basic concept
abbrev pub AsksFor : Basic → Term → Cq → Atom → Type 0
AsksFor (basic.Concept c) x q a = a ≡ atom.Concept c x
AsksFor (basic.Some r) x q a = (u : ℕ) × IsUnbound u q × (a ≡ role_atom r x (Var u))

-- by the inclusion the atom of the query becomes the second one
abbrev pub Becomes : Inclusion → Cq → ℕ → Atom → Atom → Type 0
Becomes (inclusion.Concepts b c) q new a a' =
    (x : Term) × AsksFor c x q a × (a' ≡ basic_atom b x new)
Becomes (inclusion.Roles r s) q new a a' = (x y : Term) × (a ≡ role_atom s x y)
    × (a' ≡ role_atom r x y)
Becomes (inclusion.Qualified b r c) q new a a' = ⊥
