-- Containment of conjunctive queries under inclusions and clashes, by the frozen query, after
-- Chandra and Merlin 1977 and Johnson and Klug 1984.
use Rattle.std.specs.Prelude.{ℕ, ◌+◌, ◌<◌, List, map, ◌↔◌}
use Rattle.std.specs.List.{All, Contains}
use Rattle.dl_syntax.specs.declared.names.IndId.{IndId}
use Rattle.dl_syntax.specs.declared.facts.Element.TheVariants.{Ind as ind_element}
use Rattle.dl_syntax.specs.declared.facts.Fact.{Fact}
use Rattle.dl_syntax.specs.declared.facts.Fact.TheVariants as fact
use Rattle.dl_syntax.specs.declared.ontology.Inclusion.{Inclusion}
use Rattle.dl_syntax.specs.declared.ontology.Clash.{Clash}
use Rattle.dl_syntax.specs.declared.queries.Term.{Term}
use Rattle.dl_syntax.specs.declared.queries.Term.TheVariants.{Var, Ind}
use Rattle.dl_syntax.specs.declared.queries.Atom.{Atom}
use Rattle.dl_syntax.specs.declared.queries.Atom.TheVariants as atom
use Rattle.dl_syntax.specs.declared.queries.Cq.{Cq}
use Rattle.dl_syntax.specs.Facts.{HasNoNull}
use Rattle.dl_syntax.specs.Chase.{IsConsistent}
use Rattle.dl_syntax.specs.Match.{Certain}

-- a variable as an individual of its own, with a number from the bound on
abbrev pub frozen_term : ℕ → Term → IndId
frozen_term bound (Var v) = record { 0 = bound + v }
frozen_term bound (Ind i) = i

abbrev pub frozen_atom : ℕ → Atom → Fact
frozen_atom bound (atom.Concept c x) = fact.Concept c (ind_element (frozen_term bound x))
frozen_atom bound (atom.Role p x y) =
    fact.Role p (ind_element (frozen_term bound x)) (ind_element (frozen_term bound y))

-- the query's body as a snapshot
abbrev pub frozen : ℕ → Cq → List Fact
frozen bound q = map (frozen_atom bound) q.body

-- and its head as a row
abbrev pub frozen_row : ℕ → Cq → List IndId
frozen_row bound q = map (frozen_term bound) q.head

abbrev pub IsTermBelow : ℕ → Term → Type 0
IsTermBelow bound (Var v) = Unit {0}
IsTermBelow bound (Ind i) = i.0 < bound

abbrev pub IsAtomBelow : ℕ → Atom → Type 0
IsAtomBelow bound (atom.Concept c x) = IsTermBelow bound x
IsAtomBelow bound (atom.Role p x y) = IsTermBelow bound x × IsTermBelow bound y

-- each individual of the query has a number below the bound
abbrev pub IsBelow : ℕ → Cq → Type 0
IsBelow bound q = All (IsTermBelow bound) q.head × All (IsAtomBelow bound) q.body

-- the row is a certain tuple of one of the queries
abbrev pub CertainInOne : List Inclusion → List Cq → List Fact → List IndId → Type 0
CertainInOne inclusions queries snapshot row = (q : Cq) × Contains queries q
    × Certain inclusions q snapshot row

-- in each consistent snapshot each certain tuple of the query is one of one of the queries
abbrev pub IsContained : List Inclusion → List Clash → Cq → List Cq → Type 0
IsContained inclusions clashes q queries =
    (snapshot : List Fact) (row : List IndId)
    → ((f : Fact) → Contains snapshot f → HasNoNull f)
    → IsConsistent inclusions clashes snapshot
    → Certain inclusions q snapshot row
    → CertainInOne inclusions queries snapshot row

-- containment is certainty at the frozen query, if that is consistent
abbrev pub ContainmentIsCertainty : Type 0
ContainmentIsCertainty =
    (inclusions : List Inclusion) (clashes : List Clash) (q : Cq) (queries : List Cq) (bound : ℕ)
    → IsBelow bound q
    → All (IsBelow bound) queries
    → IsContained inclusions clashes q queries
    ↔ (IsConsistent inclusions clashes (frozen bound q)
    → CertainInOne inclusions queries (frozen bound q) (frozen_row bound q))
