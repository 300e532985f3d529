-- What the index keeps of its two lists.
use Rattle.std.specs.Prelude.{List, Bool, true, false, nat_lt, Contains, ◌↔◌}
use Rattle.std.specs.List.{filter}
use Rattle.std.specs.List.Sorted.{IsStrictlySortedBy}
use Rattle.dl_syntax.specs.declared.names.ConceptId.{ConceptId}
use Rattle.dl_syntax.specs.declared.names.RoleId.{RoleId}
use Rattle.dl_syntax.specs.declared.facts.Fact.{Fact}
use Rattle.dl_syntax.specs.declared.facts.Fact.TheVariants as fact
use Rattle.fact_index.specs.Order.{fact_cmp, last_cmp}

abbrev pub is_role : Fact → Bool
is_role (fact.Concept c x) = false
is_role (fact.Role p x y) = true

-- what comes before the facts of a concept, and of a role
abbrev pub is_before_concept : ConceptId → Fact → Bool
is_before_concept id (fact.Concept c x) = nat_lt c.0 id.0
is_before_concept id (fact.Role p x y) = false

abbrev pub is_before_role : RoleId → Fact → Bool
is_before_role id (fact.Concept c x) = true
is_before_role id (fact.Role p x y) = nat_lt p.0 id.0

-- the facts in order, and the role facts in order of their last places
pub record IsIndex (facts by_last : List Fact) : Type 0 where
  pub rising : IsStrictlySortedBy fact_cmp facts
  pub last_rising : IsStrictlySortedBy last_cmp by_last
  pub same : (f : Fact) → Contains by_last f ↔ Contains (filter is_role facts) f
