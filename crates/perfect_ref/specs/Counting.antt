-- How many queries several ones reach by rewriting.
use Rattle.std.specs.Prelude.{◌≡◌, ◌≢◌, ℕ, ◌<◌, List, length}
use Rattle.std.specs.List.{All, AllPairs, AllZip, sum_by}
use Rattle.dl_syntax.specs.declared.queries.Cq.{Cq}
use Rattle.perfect_ref.specs.Plain.{Encoded, Reachable, Lists}

-- the length of all lists together
abbrev pub length_in_all : List (List Cq) → ℕ
length_in_all lists = sum_by length lists

-- the list has exactly the queries that the first one reaches, each once
abbrev pub AreAllReached : Encoded → Cq → List Cq → Type 0
AreAllReached e q list = Lists (Reachable e q) list

-- it has some of them, each once
pub record AreReached (e : Encoded) (q : Cq) (list : List Cq) : Type 0 where
  pub distinct : AllPairs (λ one other. one ≢ other) list
  pub sound : All (Reachable e q) list

-- these queries reach exactly so many in all, where what two of them reach counts twice
pub record ReachAll (e : Encoded) (queries : List Cq) (count : ℕ) : Type 0 where
  pub lists : List (List Cq)
  pub each : AllZip (AreAllReached e) queries lists
  pub total : length_in_all lists ≡ count

-- they reach more than so many
pub record ReachMore (e : Encoded) (queries : List Cq) (room : ℕ) : Type 0 where
  pub lists : List (List Cq)
  pub each : AllZip (AreReached e) queries lists
  pub more : room < length_in_all lists
