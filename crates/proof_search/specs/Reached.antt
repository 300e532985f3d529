-- The queries that rewriting reaches, and how it came to each.
use Rattle.std.specs.Prelude.{◌≡◌, ℕ, ◌<◌, ◌++◌, List, Option, Some, None, length, slice_get}
use Rattle.std.specs.List.{All, Contains}
use Rattle.dl_syntax.specs.declared.ontology.Inclusion.{Inclusion}
use Rattle.dl_syntax.specs.declared.queries.Cq.{Cq}
use Rattle.query_unify.specs.Reach.{Replaces, Reduces}
use Rattle.proof_search.specs.declared.reached.Link.{Link}

-- the inclusion lets an atom of the first query become another, or without one two atoms are made
-- equal
abbrev pub LeadsBy : List Inclusion → Option Inclusion → Cq → Cq → Type 0
LeadsBy inclusions (Some i) q q' = (place : ℕ) × Contains inclusions i × Replaces i place q q'
LeadsBy inclusions None q q' = (j k : ℕ) × (j < k) × Reduces j k q q'

-- the link leads from an earlier one of the queries to the one at the place
pub record IsLinked (inclusions : List Inclusion) (keys : List Cq) (k : ℕ) (q' : Cq) (link : Link)
    : Type 0 where
  pub earlier : link.from < k
  pub before : Cq
  pub at : slice_get keys link.from ≡ Some before
  pub leads : LeadsBy inclusions link.via before q'

-- there is a link for each query, and each but the first is led to by its link
pub record AreLinked (inclusions : List Inclusion) (keys : List Cq) (links : List Link) : Type 0
  where
    pub same_length : length links ≡ length keys
    pub linked : (k : ℕ) (q' : Cq) (link : Link) → 0 < k → slice_get keys k ≡ Some q'
        → slice_get links k ≡ Some link → IsLinked inclusions keys k q' link

-- the queries are followed by some that the property holds of, so that now there are all such; with
-- links as good as before
pub record Grows (inclusions : List Inclusion) (P : Cq → Type 0) (keys : List Cq)
    (links : List Link) (new : List Cq) (new_links : List Link) : Type 0 where
  pub added : List Cq
  pub order : new ≡ keys ++ added
  pub sound : All P added
  pub complete : (q : Cq) → P q → Contains new q
  pub kept : AreLinked inclusions keys links → AreLinked inclusions new new_links
