-- One step of a query at one row: which sets of future nodes each node holds under, after one more
-- snapshot.
use Rattle.std.specs.Prelude.{bit_or, if◌then◌else◌, ◌≡◌, ℕ, ◌-◌, ◌<◌, ◌^◌, ◌↔◌, ◌&&◌, ◌||◌, not}
use Rattle.std.specs.Prelude.{Bool, true, false, List, length, Some, slice_get, slice_index_or}
use Rattle.std.specs.List.{All}
use Rattle.dl_syntax.specs.declared.names.IndId.{IndId}
use Rattle.dl_syntax.specs.declared.ontology.Inclusion.{Inclusion}
use Rattle.tcq_syntax.specs.declared.nodes.Node.{Node}
use Rattle.tcq_syntax.specs.declared.nodes.Node.TheVariants as node
use Rattle.tcq_syntax.specs.Formula.{Formula, False, Since, Once, Historically, Next, WeakNext}
use Rattle.tcq_syntax.specs.Formula.{Until, Eventually, Always, is_future, formula_at, number_at}
use Rattle.tcq_syntax.specs.Histories.{History}
use Rattle.tcq_syntax.specs.Time.{LeafHolds}
use Rattle.tcq_syntax.specs.End.{EndHolds, Inside, future_set}
use Rattle.tcq_syntax.specs.Laws.{granted_place}
use Rattle.antichains.specs.Sets.{is_inside, holds}
use Rattle.antichains.specs.Antichain.{IsAntichain}

-- the antichain holds of exactly the sets under which the formula holds at the last position
pub record Stands (inclusions : List Inclusion) (history : History) (row : List IndId) (f : Formula)
    (sets : List ℕ) : Type 0 where
  pub antichain : IsAntichain sets
  pub same : (v : ℕ) → v < 256 → (holds sets v ≡ true)
      ↔ EndHolds inclusions history v row f (length history.snapshots - 1)

-- what a node asks besides its children: whether the row answers its leaf, whether the node itself
-- is granted, what the antichain of its kept node says at the position before, where there is one
abbrev pub own_test : Bool → ℕ → (ℕ → Bool) → Bool → Node → ℕ → Bool
own_test first number before leaf node.True v = true
own_test first number before leaf node.False v = false
own_test first number before leaf (node.Leaf q) v = leaf
own_test first number before leaf (node.And f g) v = false
own_test first number before leaf (node.Or f g) v = false
own_test first number before leaf (node.Next f) v = is_inside (2 ^ number) v
own_test first number before leaf (node.WeakNext f) v = is_inside (2 ^ number) v
own_test first number before leaf (node.Prev f) v = not first && before v
own_test first number before leaf (node.WeakPrev f) v = first || before v
own_test first number before leaf (node.Until f g) v = is_inside (2 ^ number) v
own_test first number before leaf (node.Since f g) v = not first && before v
own_test first number before leaf (node.Eventually f) v = is_inside (2 ^ number) v
own_test first number before leaf (node.Always f) v = is_inside (2 ^ number) v
own_test first number before leaf (node.Once f) v = not first && before v
own_test first number before leaf (node.Historically f) v = first || before v

-- whether the node holds under a set, by its children's antichains and what it asks besides
abbrev pub joined : (ℕ → List ℕ) → (ℕ → Bool) → Node → ℕ → Bool
joined child own (node.And f g) v = holds (child f) v && holds (child g) v
joined child own (node.Or f g) v = holds (child f) v || holds (child g) v
joined child own (node.Until f g) v = holds (child g) v || (holds (child f) v && own v)
joined child own (node.Since f g) v = holds (child g) v || (holds (child f) v && own v)
joined child own (node.Eventually f) v = holds (child f) v || own v
joined child own (node.Once f) v = holds (child f) v || own v
joined child own (node.Always f) v = holds (child f) v && own v
joined child own (node.Historically f) v = holds (child f) v && own v
joined child own _ v = own v

abbrev pub node_test : Bool → ℕ → (ℕ → List ℕ) → (ℕ → Bool) → Bool → Node → ℕ → Bool
node_test first number child before leaf n v =
    joined child (own_test first number before leaf n) n v

abbrev pub is_past : Node → Bool
is_past (node.Prev f) = true
is_past (node.WeakPrev f) = true
is_past (node.Since f g) = true
is_past (node.Once f) = true
is_past (node.Historically f) = true
is_past _ = false

-- the formula of the kept node that a past node asks
abbrev pub kept_formula : (ℕ → Formula) → Node → Formula
kept_formula child (node.Prev f) = child f
kept_formula child (node.WeakPrev f) = child f
kept_formula child (node.Since f g) = Since (child f) (child g)
kept_formula child (node.Once f) = Once (child f)
kept_formula child (node.Historically f) = Historically (child f)
kept_formula child _ = False

-- the place of the kept node that a past node asks
abbrev pub kept_place : ℕ → Node → ℕ
kept_place place (node.Prev f) = f
kept_place place (node.WeakPrev f) = f
kept_place place _ = place

-- the antichain of each node below the count stands for its formula
abbrev pub AllStand : List Inclusion → History → List IndId → List Node → ℕ → (ℕ → List ℕ) → Type 0
AllStand inclusions history row nodes count antichain = (place : ℕ) → place < count
    → Stands inclusions history row (formula_at nodes place) (antichain place)

-- the value of each future node below the count is what is at the place of the node that is granted
-- with it
abbrev pub AllGranted : {X : Type 0} → X → List Node → ℕ → (ℕ → X) → List X → Type 0
AllGranted none nodes count at values = (place : ℕ) (n : Node) → place < count
    → slice_get nodes place ≡ Some n → is_future n ≡ true
    → slice_index_or values (number_at nodes place) none ≡ at (granted_place place n)

-- the sets have no other members
abbrev pub OwnIn : ℕ → List ℕ → Type 0
OwnIn own sets = All (λ set. Inside set own) sets

-- the sets of each node below the count have only future nodes of its own part of the formula
abbrev pub AllOwn : List Node → ℕ → (ℕ → List ℕ) → Type 0
AllOwn nodes count antichain = (place : ℕ) → place < count
    → OwnIn (future_set (formula_at nodes place)) (antichain place)

-- the answer is the leaf's, if the node is one
abbrev pub LeafIs : List Inclusion → History → List IndId → ℕ → Bool → Node → Type 0
LeafIs inclusions history row i leaf (node.Leaf q) =
    (leaf ≡ true) ↔ LeafHolds inclusions history row q i
LeafIs inclusions history row i leaf _ = Unit {0}

-- at each place that a past node asks, if there is a position, the kept antichain stands for the
-- formula
abbrev pub KeptStands : List Inclusion → History → List IndId → List Node → (ℕ → List ℕ) → Type 0
KeptStands inclusions history row nodes old = (place : ℕ) (n : Node)
    → slice_get nodes place ≡ Some n → is_past n ≡ true → 0 < length history.snapshots
    → Stands inclusions history row (formula_at nodes (kept_place place n))
    (old (kept_place place n))

-- the number of a future formula is below the limit
abbrev pub HasNumberBelow : ℕ → Formula → Type 0
HasNumberBelow limit (Next number f) = number < limit
HasNumberBelow limit (WeakNext number f) = number < limit
HasNumberBelow limit (Until number f g) = number < limit
HasNumberBelow limit (Eventually number f) = number < limit
HasNumberBelow limit (Always number f) = number < limit
HasNumberBelow limit _ = Unit {0}

-- the node is a weak operator
abbrev pub is_weak : Node → Bool
is_weak (node.WeakNext f) = true
is_weak (node.Always f) = true
is_weak _ = false

-- the set with the number of the node, if it is a weak operator
abbrev pub with_weak : ℕ → ℕ → Node → ℕ
with_weak set number n = (if is_weak n then bit_or set (2 ^ number) else set)

-- the set of the future nodes of a node's part of the formula, from those of its children
abbrev pub joined_set : ℕ → (ℕ → ℕ) → Node → ℕ
joined_set number child node.True = 0
joined_set number child node.False = 0
joined_set number child (node.Leaf q) = 0
joined_set number child (node.And f g) = bit_or (child f) (child g)
joined_set number child (node.Or f g) = bit_or (child f) (child g)
joined_set number child (node.Next f) = bit_or (2 ^ number) (child f)
joined_set number child (node.WeakNext f) = bit_or (2 ^ number) (child f)
joined_set number child (node.Prev f) = child f
joined_set number child (node.WeakPrev f) = child f
joined_set number child (node.Until f g) = bit_or (2 ^ number) (bit_or (child f) (child g))
joined_set number child (node.Since f g) = bit_or (child f) (child g)
joined_set number child (node.Eventually f) = bit_or (2 ^ number) (child f)
joined_set number child (node.Always f) = bit_or (2 ^ number) (child f)
joined_set number child (node.Once f) = child f
joined_set number child (node.Historically f) = child f
