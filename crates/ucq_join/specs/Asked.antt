-- The queries of the tests.
use Rattle.std.specs.Prelude.{◌≡◌, ℕ, length}
use Rattle.dl_syntax.specs.declared.queries.Cq.{Cq}
use Rattle.dl_syntax.specs.Queries.{IsQuery}

-- the query is within the limits, and its head has so many terms
pub record IsAsked (arity : ℕ) (q : Cq) : Type 0 where
  pub query : IsQuery q
  pub wide : length q.head ≡ arity
