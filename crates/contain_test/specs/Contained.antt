-- When a conjunctive query is contained in another under an ontology, after Johnson and Klug 1984.
use Rattle.std.specs.Prelude.{◌≡◌, ◌↔◌, List, length}
use Rattle.dl_syntax.specs.declared.names.IndId.{IndId}
use Rattle.dl_syntax.specs.declared.facts.Fact.{Fact}
use Rattle.dl_syntax.specs.declared.queries.Cq.{Cq}
use Rattle.dl_syntax.specs.Queries.{IsQuery}
use Rattle.dl_syntax.specs.Ontology.{Declared}
use Rattle.dl_syntax.specs.Match.{Certain}
use Rattle.perfect_ref.specs.Plain.{encoded, Lists, PlainReachable}
use Rattle.dl_syntax.specs.Encode.{IsOverOntology, IsQueryOver}
use Rattle.consistency.specs.Least.{IsConsistentUnder}
use Rattle.models.specs.Containment.{IsBelow}
use Rattle.contain_test.specs.declared.deciding.Containment.{Containment}
use Rattle.contain_test.specs.declared.deciding.Containment.TheVariants.{Yes, No}
use Rattle.contain_test.specs.Deciding.{IsFrozen}

-- the query is within the limits, and the ontology declares each concept, role and individual that
-- it names
pub record IsQueryOf (o : Declared) (q : Cq) : Type 0 where
  pub query : IsQuery q
  pub predicates : IsQueryOver o q
  pub individuals : IsBelow (length o.individuals) q

-- in each consistent snapshot, over the declared individuals and any further ones, each answer of
-- the first query is one of the second
abbrev pub IsContainedUnder : Declared → Cq → Cq → Type 0
IsContainedUnder o first second =
    (snapshot : List Fact) (row : List IndId)
    → IsOverOntology o snapshot
    → IsConsistentUnder o snapshot
    → Certain o.inclusions first snapshot row
    → Certain o.inclusions second snapshot row

-- the body of the normalised first query, variable n being the individual n places after the
-- declared ones, and its head:
-- the facts are consistent, and the row is an answer of the first query and not of the second
pub record Separates (o : Declared) (first second : Cq) (facts : List Fact)
    (row : List IndId) : Type 0 where
  pub frozen : IsFrozen o first facts row
  pub over : IsOverOntology o facts
  pub consistent : IsConsistentUnder o facts
  pub answer : Certain o.inclusions first facts row
  pub no_answer : ¬ Certain o.inclusions second facts row

-- what is said against containment shows it
abbrev pub IsShown : Declared → Cq → Cq → Containment → Type 0
IsShown o first second Yes = Unit {0}
IsShown o first second (No facts row) = Separates o first second facts row

-- yes exactly where the first query is contained in the second, and what is said against
-- containment shows it
pub record IsExact (o : Declared) (first second : Cq) (c : Containment) : Type 0 where
  pub exact : (c ≡ Yes) ↔ IsContainedUnder o first second
  pub shown : IsShown o first second c

-- so it is for each second query whose rewriting is this union
abbrev pub IsExactBy : Declared → Cq → List Cq → Containment → Type 0
IsExactBy o first union c =
    (second : Cq)
    → IsQueryOf o second
    → Lists (PlainReachable (encoded o) second) union
    → IsExact o first second c
