-- Histories of one individual that is in A, in B, in both or in neither at each position, and where
-- a query holds in them.
use Rattle.std.specs.Prelude.{◌≡◌, ℕ, ◌-◌, ◌<◌, ◌⊎◌, ◌↔◌, Bool, false, true, if◌then◌else◌, IsTrue}
use Rattle.std.specs.Prelude.{nat_eq, List, [], ◌∷◌, ◌++◌, length, map, slice_index_or, SomeIndex}
use Rattle.std.specs.List.{All}
use Rattle.dl_syntax.specs.declared.names.IndId.{IndId}
use Rattle.dl_syntax.specs.declared.facts.Element.TheVariants.{Ind}
use Rattle.dl_syntax.specs.declared.facts.Fact.{Fact}
use Rattle.dl_syntax.specs.declared.facts.Fact.TheVariants as fact
use Rattle.dl_syntax.specs.declared.queries.Atom.{Atom}
use Rattle.dl_syntax.specs.declared.queries.Atom.TheVariants as atom
use Rattle.dl_syntax.specs.declared.queries.Cq.{Cq}
use Rattle.dl_syntax.specs.Match.{Certain}
use Rattle.dl_syntax.specs.Laws.{instances}
use Rattle.tcq_syntax.specs.declared.nodes.Node.{Node}
use Rattle.tcq_syntax.specs.declared.nodes.Node.TheVariants as node
use Rattle.tcq_syntax.specs.Formula.{Formula, formula_at}
use Rattle.tcq_syntax.specs.Histories.{History}
use Rattle.tcq_syntax.specs.Tcq.{Tcq}
use Rattle.tcq_syntax.specs.Time.{Holds}

-- whether the individual is in A and in B at a position
abbrev pub Told : Type 0
Told = Bool × Bool

-- the row of the one individual
abbrev pub the_row : List IndId
the_row = record { 0 = 0 } ∷ []

-- that the individual is in the concept with the number, if it is
abbrev pub member_if : Bool → ℕ → List Fact
member_if is concept = (if is then fact.Concept (record { 0 = concept }) (Ind (record { 0 = 0 }))
    ∷ [] else [])

-- the snapshot in which the individual is in A and in B as told
abbrev pub snapshot_of : Told → List Fact
snapshot_of told = member_if told.0 0 ++ member_if told.1 1

-- the history of these snapshots
abbrev pub history_of : List Told → History
history_of told = record { names = []; snapshots = map snapshot_of told; is_closed = true }

-- the atom is of the concept A
abbrev pub is_of_first : Atom → Bool
is_of_first (atom.Concept concept x) = nat_eq concept.0 0
is_of_first (atom.Role role x y) = false

-- the query asks for the members of A, or for those of B
abbrev pub AsksForMembers : Cq → Type 0
AsksForMembers q = (q ≡ instances (record { 0 = 0 })) ⊎ (q ≡ instances (record { 0 = 1 }))

-- and so does the node, if it is a leaf
abbrev pub LeafAsksForMembers : Node → Type 0
LeafAsksForMembers n = (q : Cq) → n ≡ node.Leaf q → AsksForMembers q

-- the individual answers the query in the snapshot
abbrev pub Answers : Told → Cq → Type 0
Answers told q = Certain [] q (snapshot_of told) the_row

-- the formula holds of the individual at the position
abbrev pub HoldsIn : List Told → Formula → ℕ → Type 0
HoldsIn told f i = Holds [] (history_of told) the_row f i

-- the query has one answer variable, and each of its leaves asks for the members of A, or for those
-- of B
pub record LeavesAskForMembers (query : Tcq) : Type 0 where
  pub one : query.vars ≡ 1
  pub leaves : All LeafAsksForMembers query.nodes

-- the individual's row alone, if it is there
abbrev pub rows_if : Bool → List (List IndId)
rows_if there = (if there then the_row ∷ [] else [])

-- there is a last position, and the root of the nodes holds of the individual there
abbrev pub HoldsLast : List Node → List Told → Type 0
HoldsLast nodes told = (0 < length told)
    × HoldsIn told (formula_at nodes (length nodes - 1)) (length told - 1)

-- the row is true at the place
abbrev pub IsSet : List Bool → ℕ → Type 0
IsSet row place = IsTrue (slice_index_or row place false)

-- the row is true at the positions at which the formula holds
abbrev pub Tells : List Told → Formula → List Bool → Type 0
Tells told f row = (i : ℕ) → i < length told → IsSet row i ↔ HoldsIn told f i

-- each row tells where the formula of its place holds
abbrev pub AreRows : List Told → (ℕ → Formula) → List (List Bool) → Type 0
AreRows told formula rows = (place : ℕ) → place < length rows
    → Tells told (formula place) (slice_index_or rows place [])

-- the second is true at some place, and the first at each before it
abbrev pub IsUntil : List Bool → List Bool → Type 0
IsUntil f g = SomeIndex g (λ j. IsSet g j × ((l : ℕ) → l < j → IsSet f l))

-- the second is true at some place, and the first at each after it
abbrev pub IsSince : List Bool → List Bool → Type 0
IsSince f g = SomeIndex g (λ j. IsSet g j × ((l : ℕ) → j < l → l < length f → IsSet f l))
