-- The order of facts, and what a fact is about.
use Rattle.std.specs.Prelude.{Bool, false, ◌==◌}
use Rattle.std.specs.Ordering.{is_eq}
use Rattle.std.specs.declared.cmp.Ordering.{Ordering}
use Rattle.dl_syntax.specs.declared.names.ConceptId.{ConceptId}
use Rattle.dl_syntax.specs.declared.names.RoleId.{RoleId}
use Rattle.dl_syntax.specs.declared.facts.Element.{Element}
use Rattle.dl_syntax.specs.declared.facts.Fact.{Fact}
use Rattle.dl_syntax.specs.declared.facts.Fact.TheVariants as fact
use Rattle.dl_syntax.specs.contracts.facts.FactOrd.TheImpl as fact_impl
use Rattle.dl_syntax.specs.contracts.facts.ElementOrd.TheImpl as element_impl

-- an individual before a null, and each by its number
abbrev pub element_cmp : Element → Element → Ordering
element_cmp = (element_impl.ghosts).cmp

-- concepts before roles, then by predicate, first place and second place
abbrev pub fact_cmp : Fact → Fact → Ordering
fact_cmp = (fact_impl.ghosts).cmp

-- whether two elements are the same, by the order
abbrev pub element_eq : Element → Element → Bool
element_eq a b = is_eq (element_cmp a b)

-- whether a fact is of a concept, and whether of a role
abbrev pub is_of_concept : ConceptId → Fact → Bool
is_of_concept id (fact.Concept c x) = c.0 == id.0
is_of_concept id (fact.Role p x y) = false

abbrev pub is_of_role : RoleId → Fact → Bool
is_of_role id (fact.Concept c x) = false
is_of_role id (fact.Role p x y) = p.0 == id.0

-- a fact's first place, and its last
abbrev pub first_of : Fact → Element
first_of (fact.Concept c x) = x
first_of (fact.Role p x y) = x

abbrev pub last_of : Fact → Element
last_of (fact.Concept c x) = x
last_of (fact.Role p x y) = y

-- the fact with the places of a role exchanged
abbrev pub turned_of : Fact → Fact
turned_of (fact.Concept c x) = fact.Concept c x
turned_of (fact.Role p x y) = fact.Role p y x

-- the order of role facts by their last places
abbrev pub last_cmp : Fact → Fact → Ordering
last_cmp x y = fact_cmp (turned_of x) (turned_of y)
