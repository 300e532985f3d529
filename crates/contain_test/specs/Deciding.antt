-- What the frozen query tells, asked by a union of queries.
use Rattle.std.specs.Prelude.{◌≡◌, List, length}
use Rattle.dl_syntax.specs.declared.names.IndId.{IndId}
use Rattle.dl_syntax.specs.declared.facts.Fact.{Fact}
use Rattle.dl_syntax.specs.declared.queries.Cq.{Cq}
use Rattle.dl_syntax.specs.Ontology.{Declared}
use Rattle.query_unify.specs.Normal.{normalise}
use Rattle.ucq_join.specs.Answers.{IsUnionAnswer}
use Rattle.consistency.specs.Least.{IsConsistentUnder}
use Rattle.models.specs.Containment.{frozen, frozen_row}
use Rattle.contain_test.specs.declared.deciding.Containment.{Containment}
use Rattle.contain_test.specs.declared.deciding.Containment.TheVariants.{Yes, No}

-- if the facts are consistent, the row is an answer of the union in them
abbrev pub IsMatched : Declared → List Cq → List Fact → List IndId → Type 0
IsMatched o union facts row = IsConsistentUnder o facts → IsUnionAnswer facts union row

-- the facts are consistent, and the row is no answer of the union in them
pub record IsUnmatched (o : Declared) (union : List Cq) (facts : List Fact)
    (row : List IndId) : Type 0 where
  pub consistent : IsConsistentUnder o facts
  pub no_answer : ¬ IsUnionAnswer facts union row

-- these facts and this row are the frozen query's
pub record IsFrozen (o : Declared) (q : Cq) (facts : List Fact) (row : List IndId) : Type 0 where
  pub body : facts ≡ frozen (length o.individuals) (normalise q)
  pub head : row ≡ frozen_row (length o.individuals) (normalise q)

-- yes where the frozen query is matched, and elsewhere the frozen query, which is unmatched
abbrev pub IsDecided : Declared → Cq → List Cq → Containment → Type 0
IsDecided o q union Yes =
    IsMatched o union (frozen (length o.individuals) (normalise q))
    (frozen_row (length o.individuals) (normalise q))
IsDecided o q union (No facts row) = IsFrozen o q facts row × IsUnmatched o union facts row
