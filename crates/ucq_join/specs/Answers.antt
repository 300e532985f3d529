-- Answers of unions of conjunctive queries in a list of facts.
use Rattle.std.specs.Prelude.{◌≡◌, List, map}
use Rattle.std.specs.List.{Contains}
use Rattle.dl_syntax.specs.declared.names.IndId.{IndId}
use Rattle.dl_syntax.specs.declared.facts.Element.TheVariants.{Ind as ind_element}
use Rattle.dl_syntax.specs.declared.facts.Fact.{Fact}
use Rattle.dl_syntax.specs.declared.queries.Cq.{Cq}
use Rattle.dl_syntax.specs.Match.{Assignment, Match, term_at}

-- some match in the facts sends the head to the row
pub record IsAnswer (facts : List Fact) (q : Cq) (row : List IndId) : Type 0 where
  pub assignment : Assignment
  pub match : Match q.body facts assignment
  pub head : map (term_at assignment) q.head ≡ map ind_element row

-- some member of the union has the row as an answer
abbrev pub IsUnionAnswer : List Fact → List Cq → List IndId → Type 0
IsUnionAnswer facts union row = (q : Cq) × Contains union q × IsAnswer facts q row
