-- The normal form of a query: variables numbered by first occurrence, each atom once.
use Rattle.std.specs.Prelude.{◌==◌, ℕ, zero, suc, Bool, true, false, if◌then◌else◌, List, [], ◌∷◌}
use Rattle.std.specs.Prelude.{◌++◌}
use Rattle.std.specs.List.{filter}
use Rattle.dl_syntax.specs.declared.queries.Term.{Term}
use Rattle.dl_syntax.specs.declared.queries.Term.TheVariants.{Var, Ind}
use Rattle.dl_syntax.specs.declared.queries.Atom.{Atom}
use Rattle.dl_syntax.specs.declared.queries.Atom.TheVariants as atom
use Rattle.dl_syntax.specs.declared.queries.Cq.{Cq}
use Rattle.query_unify.specs.Substitution.{Substitution, applied_query}

abbrev pub same_term : Term → Term → Bool
same_term (Var v) (Var w) = v == w
same_term (Ind i) (Ind j) = i.0 == j.0
same_term _ _ = false

abbrev pub same_atom : Atom → Atom → Bool
same_atom (atom.Concept c x) (atom.Concept d y) = if c.0 == d.0 then same_term x y else false
same_atom (atom.Role p x x') (atom.Role r y y') =
    if p.0 == r.0 then (if same_term x y then same_term x' y' else false) else false
same_atom _ _ = false

-- each at its first place only
abbrev pub first_places : {X : Type 0} → (X → X → Bool) → List X → List X
first_places same [] = []
first_places same (x ∷ xs) = x ∷ filter (λ y.
    if same x y then false else true) (first_places same xs)

-- the place of the number, counted from 0
abbrev pub place_in : List ℕ → ℕ → ℕ
place_in [] v = 0
place_in (w ∷ ws) v = if w == v then 0 else suc (place_in ws v)

abbrev pub variables_of : List Term → List ℕ
variables_of [] = []
variables_of (Var v ∷ terms) = v ∷ variables_of terms
variables_of (Ind i ∷ terms) = variables_of terms

abbrev pub terms_of : List Atom → List Term
terms_of [] = []
terms_of (atom.Concept c x ∷ atoms) = x ∷ terms_of atoms
terms_of (atom.Role p x y ∷ atoms) = x ∷ y ∷ terms_of atoms

-- each number once, at its first place
abbrev pub distinct : List ℕ → List ℕ
distinct vs = first_places (λ v w. v == w) vs

-- the numbers below the bound, in order
abbrev pub numbers : ℕ → List ℕ
numbers zero = []
numbers (suc n) = numbers n ++ n ∷ []

-- the variables by first occurrence in the head, then in the body
abbrev pub variables : Cq → List ℕ
variables q = distinct (variables_of (q.head ++ terms_of q.body))

-- each variable becomes its place
abbrev pub places : List ℕ → Substitution
places vs v = Var (place_in vs v)

-- each variable of the query becomes its number
abbrev pub numbering : Cq → Substitution
numbering q = places (variables q)

abbrev pub without_repeats : Cq → Cq
without_repeats q = record { head = q.head; body = first_places same_atom q.body }

abbrev pub normalise : Cq → Cq
normalise q = without_repeats (applied_query (numbering q) q)
