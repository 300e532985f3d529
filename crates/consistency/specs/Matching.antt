-- The first rewriting of a list that has a match among facts.
use Rattle.std.specs.Prelude.{◌≡◌, ℕ, ◌+◌, ◌<◌, Option, Some, None, List, [], length, slice_get}
use Rattle.std.specs.List.{All}
use Rattle.dl_syntax.specs.declared.facts.Fact.{Fact}
use Rattle.dl_syntax.specs.declared.queries.Cq.{Cq}
use Rattle.dl_syntax.specs.Queries.{IsQuery}
use Rattle.ucq_join.specs.Answers.{IsUnionAnswer}
use Rattle.ucq_join.specs.Alike.{AgreeOnUnion}
use Rattle.consistency.specs.declared.rewriting.Part.{Part}
use Rattle.consistency.specs.declared.rewriting.Part.TheVariants.{Whole, Core}
use Rattle.consistency.specs.declared.rewriting.Rewriting.{Rewriting}
use Rattle.consistency.specs.Asking.{HasEmptyHead}

-- all queries of the rewriting, or its core
abbrev pub part_of : Part → Rewriting → List Cq
part_of Whole r = r.whole.items
part_of Core r = r.core.items

-- the queries are within the limits and have empty heads
pub record AsksForMatch (part : Part) (r : Rewriting) : Type 0 where
  pub queries : All IsQuery (part_of part r)
  pub heads : All HasEmptyHead (part_of part r)

-- some query has a match among the facts
abbrev pub HasMatchIn : List Fact → Part → Rewriting → Type 0
HasMatchIn facts part r = IsUnionAnswer facts (part_of part r) []

-- no rewriting before the place has one
pub record NoneBefore (facts : List Fact) (part : Part) (rewritings : List Rewriting)
    (place : ℕ) : Type 0 where
  pub none : (k : ℕ) (r : Rewriting) → k < place → slice_get rewritings k ≡ Some r
      → HasMatchIn facts part r → ⊥

-- the rewriting of the number, counted from 1, has one, and no earlier one has
pub record IsFirstAt (facts : List Fact) (part : Part) (rewritings : List Rewriting)
    (number : ℕ) : Type 0 where
  pub place : ℕ
  pub counted : number ≡ place + 1
  pub rewriting : Rewriting
  pub listed : slice_get rewritings place ≡ Some rewriting
  pub matches : HasMatchIn facts part rewriting
  pub earlier : NoneBefore facts part rewritings place

-- the number of the first rewriting that has one, or none where none has
abbrev pub IsFirstMatch : List Fact → Part → List Rewriting → Option ℕ → Type 0
IsFirstMatch facts part rewritings None = NoneBefore facts part rewritings (length rewritings)
IsFirstMatch facts part rewritings (Some number) = IsFirstAt facts part rewritings number

-- both lists have the same facts of the predicates of what is asked
abbrev pub AgreeOnPart : Part → List Rewriting → List Fact → List Fact → Type 0
AgreeOnPart part rewritings facts other = (place : ℕ) (r : Rewriting)
    → slice_get rewritings place ≡ Some r → AgreeOnUnion (part_of part r) facts other
