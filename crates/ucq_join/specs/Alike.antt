-- Lists of facts that a union of queries can't tell apart.
use Rattle.std.specs.Prelude.{◌≡◌, ◌↔◌, List}
use Rattle.std.specs.List.{Contains}
use Rattle.dl_syntax.specs.declared.names.IndId.{IndId}
use Rattle.dl_syntax.specs.declared.facts.Fact.{Fact}
use Rattle.dl_syntax.specs.declared.facts.Fact.TheVariants as fact
use Rattle.dl_syntax.specs.declared.queries.Atom.{Atom}
use Rattle.dl_syntax.specs.declared.queries.Atom.TheVariants as atom
use Rattle.dl_syntax.specs.declared.queries.Cq.{Cq}
use Rattle.ucq_join.specs.Answers.{IsUnionAnswer}

-- the fact is of the atom's predicate
abbrev pub HasPredicateOf : Atom → Fact → Type 0
HasPredicateOf (atom.Concept c x) (fact.Concept d e) = c ≡ d
HasPredicateOf (atom.Concept c x) (fact.Role p e e') = ⊥
HasPredicateOf (atom.Role p x y) (fact.Concept d e) = ⊥
HasPredicateOf (atom.Role p x y) (fact.Role r e e') = p ≡ r

-- both lists have the same facts of the atoms' predicates
abbrev pub AgreeOn : List Atom → List Fact → List Fact → Type 0
AgreeOn body facts other = (a : Atom) (f : Fact) → Contains body a → HasPredicateOf a f
    → Contains facts f ↔ Contains other f

-- and of the predicates of each member
abbrev pub AgreeOnUnion : List Cq → List Fact → List Fact → Type 0
AgreeOnUnion union facts other = (q : Cq) → Contains union q → AgreeOn q.body facts other

-- then the union has the same answers in both
abbrev pub AnswersAreAlike : Type 0
AnswersAreAlike = (union : List Cq) (facts other : List Fact) (row : List IndId)
    → AgreeOnUnion union facts other → IsUnionAnswer facts union row ↔ IsUnionAnswer other union row
