-- The rewriting of a query over an ontology, after Calvanese, De Giacomo, Lembo, Lenzerini and
-- Rosati 2007: the reachable queries that name no hidden role.
use Rattle.std.specs.Prelude.{◌≡◌, ◌≢◌, ℕ, ◌<◌, List, length}
use Rattle.std.specs.List.{All, AllPairs, Contains}
use Rattle.dl_syntax.specs.declared.ontology.Inclusion.{Inclusion}
use Rattle.dl_syntax.specs.declared.queries.Atom.{Atom}
use Rattle.dl_syntax.specs.declared.queries.Atom.TheVariants as atom
use Rattle.dl_syntax.specs.declared.queries.Cq.{Cq}
use Rattle.dl_syntax.specs.Ontology.{Declared}
use Rattle.dl_syntax.specs.Encode.{encode}
use Rattle.query_unify.specs.Reach.{Reach}
use Rattle.query_unify.specs.Core.{IsCore}

-- what rewriting needs of an ontology: the count of its roles, and the inclusions of its encoding,
-- whose hidden roles are numbered from that count on
pub record Encoded : Type 0 where
  pub roles : ℕ
  pub inclusions : List Inclusion

abbrev pub encoded : Declared → Encoded
encoded o = record { roles = length o.roles; inclusions = encode (length o.roles) o.inclusions }

abbrev pub IsPlainAtom : ℕ → Atom → Type 0
IsPlainAtom roles (atom.Concept c x) = Unit {0}
IsPlainAtom roles (atom.Role p x y) = p.0 < roles

-- the query names no hidden role
abbrev pub IsPlain : ℕ → Cq → Type 0
IsPlain roles q = All (IsPlainAtom roles) q.body

-- steps lead from the normalised query to the second one
abbrev pub Reachable : Encoded → Cq → Cq → Type 0
Reachable o q q' = Reach o.inclusions q q'

-- and that one names no hidden role
abbrev pub PlainReachable : Encoded → Cq → Cq → Type 0
PlainReachable o q q' = Reach o.inclusions q q' × IsPlain o.roles q'

-- the normalised query, and what a replacement by an inclusion with `some` on the right makes of a
-- reachable one, where that names no hidden role
abbrev pub PlainCore : Encoded → Cq → Cq → Type 0
PlainCore o q q' = IsCore o.inclusions q q' × IsPlain o.roles q'

-- the list has exactly what the property holds of, each once
pub record Lists (P : Cq → Type 0) (list : List Cq) : Type 0 where
  pub distinct : AllPairs (λ p q. p ≢ q) list
  pub sound : All P list
  pub complete : (q : Cq) → P q → Contains list q

-- the property holds of exactly so many
abbrev pub HoldsOf : (Cq → Type 0) → ℕ → Type 0
HoldsOf P count = (list : List Cq) × Lists P list × (length list ≡ count)

-- the property holds of more than so many
pub record HoldsOfMore (P : Cq → Type 0) (room : ℕ) : Type 0 where
  pub list : List Cq
  pub distinct : AllPairs (λ p q. p ≢ q) list
  pub sound : All P list
  pub more : room < length list
