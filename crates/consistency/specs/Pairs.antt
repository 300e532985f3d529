-- The pairs of two roles, in one order.
use Rattle.std.specs.Prelude.{◌≡◌, ℕ, ◌<◌, ◌≤◌, Bool, false, List, Some, slice_get, if◌then◌else◌}
use Rattle.std.specs.Ordering.{is_lt}
use Rattle.dl_syntax.specs.declared.names.RoleId.{RoleId}
use Rattle.dl_syntax.specs.declared.facts.Fact.{Fact}
use Rattle.dl_syntax.specs.declared.facts.Fact.TheVariants as fact
use Rattle.fact_index.specs.Order.{fact_cmp}

-- the fact as one of the role, with its places exchanged where they are turned
abbrev pub as_fact_of : RoleId → Bool → Fact → Fact
as_fact_of id turned (fact.Concept c x) = fact.Concept c x
as_fact_of id turned (fact.Role p x y) = if turned then fact.Role id y x else fact.Role id x y

-- as a fact of the role none is before an earlier one
pub record Rises (id : RoleId) (turned : Bool) (facts : List Fact) : Type 0 where
  pub later : (k l : ℕ) (f g : Fact) → k ≤ l → slice_get facts k ≡ Some f
      → slice_get facts l ≡ Some g
      → is_lt (fact_cmp (as_fact_of id turned g) (as_fact_of id turned f)) ≡ false

-- no fact of the first list before the place, and none of the second before the other, has an equal
-- in the other list
pub record Passed (id : RoleId) (turned : Bool) (one other : List Fact) (left right : ℕ) : Type 0
  where
    pub first : (k l : ℕ) (f g : Fact) → k < left → slice_get one k ≡ Some f
        → slice_get other l ≡ Some g → as_fact_of id false f ≡ as_fact_of id turned g → ⊥
    pub second : (k l : ℕ) (f g : Fact) → l < right → slice_get one k ≡ Some f
        → slice_get other l ≡ Some g → as_fact_of id false f ≡ as_fact_of id turned g → ⊥
