-- The future nodes of a node's part of the formula.
use Rattle.std.specs.Prelude.{◌≡◌, ℕ, ◌<◌, ◌^◌, List, bit_or, slice_index_or}
use Rattle.tcq_syntax.specs.declared.nodes.Node.{Node}
use Rattle.tcq_syntax.specs.declared.nodes.Node.TheVariants as node
use Rattle.tcq_syntax.specs.Formula.{formula_at}
use Rattle.tcq_syntax.specs.End.{future_set}

-- the set of the future nodes of a node's part of the formula, from those of its children
abbrev pub joined_set : ℕ → (ℕ → ℕ) → Node → ℕ
joined_set number child node.True = 0
joined_set number child node.False = 0
joined_set number child (node.Leaf q) = 0
joined_set number child (node.And f g) = bit_or (child f) (child g)
joined_set number child (node.Or f g) = bit_or (child f) (child g)
joined_set number child (node.Next f) = bit_or (2 ^ number) (child f)
joined_set number child (node.WeakNext f) = bit_or (2 ^ number) (child f)
joined_set number child (node.Prev f) = child f
joined_set number child (node.WeakPrev f) = child f
joined_set number child (node.Until f g) = bit_or (2 ^ number) (bit_or (child f) (child g))
joined_set number child (node.Since f g) = bit_or (child f) (child g)
joined_set number child (node.Eventually f) = bit_or (2 ^ number) (child f)
joined_set number child (node.Always f) = bit_or (2 ^ number) (child f)
joined_set number child (node.Once f) = child f
joined_set number child (node.Historically f) = child f

-- the set at each place below the count is that of the future nodes of the node's part of the
-- formula
abbrev pub AreOwnSets : List Node → ℕ → List ℕ → Type 0
AreOwnSets nodes count sets = (place : ℕ) → place < count
    → slice_index_or sets place 0 ≡ future_set (formula_at nodes place)
