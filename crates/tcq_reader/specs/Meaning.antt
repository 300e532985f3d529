-- The queries that a file says.
use Rattle.std.specs.Prelude.{ℕ, ◌-◌, List, [], ◌∷◌, ◌++◌, length}
use Rattle.dl_syntax.specs.Ontology.{Declared}
use Rattle.tcq_syntax.specs.declared.nodes.Node.{Node}
use Rattle.tcq_syntax.specs.declared.nodes.Node.TheVariants as node
use Rattle.tcq_syntax.specs.Tcq.{Tcq}
use Rattle.tcq_grammar.specs.declared.words.UnaryOp.{UnaryOp}
use Rattle.tcq_grammar.specs.declared.words.UnaryOp.TheVariants as unary
use Rattle.tcq_grammar.specs.declared.words.TimedOp.{TimedOp}
use Rattle.tcq_grammar.specs.declared.words.TimedOp.TheVariants as timed
use Rattle.tcq_grammar.specs.Grammar as g
use Rattle.tcq_reader.specs.Leaves.{leaf_said}

abbrev pub unary_node : UnaryOp → ℕ → Node
unary_node unary.Next f = node.Next f
unary_node unary.WeakNext f = node.WeakNext f
unary_node unary.Prev f = node.Prev f
unary_node unary.WeakPrev f = node.WeakPrev f
unary_node unary.Eventually f = node.Eventually f
unary_node unary.Always f = node.Always f
unary_node unary.Once f = node.Once f
unary_node unary.Historically f = node.Historically f

abbrev pub timed_node : TimedOp → ℕ → ℕ → Node
timed_node timed.Until f g = node.Until f g
timed_node timed.Since f g = node.Since f g

-- the place of the node that came last
abbrev pub last_place : List Node → ℕ
last_place nodes = length nodes - 1

abbrev pub with_node : List Node → Node → List Node
with_node nodes n = nodes ++ n ∷ []

-- a table with the nodes of a formula behind those that it has: the nodes of its parts from left to
-- right, and then its own, whose children are the last places of these parts. `put` puts a node
-- last
abbrev pub emit : (put : List Node → Node → List Node) → Declared → List (List ℕ) → List Node
    → g.Tree → List Node
emit put o variables nodes g.Truth = put nodes node.True
emit put o variables nodes g.Falsity = put nodes node.False
emit put o variables nodes (g.Leaf front last) =
    put nodes (node.Leaf (leaf_said o variables (front ++ last ∷ [])))
emit put o variables nodes (g.Apply op body) =
    put (emit put o variables nodes body)
    (unary_node op (last_place (emit put o variables nodes body)))
emit put o variables nodes (g.Group body) = emit put o variables nodes body
emit put o variables nodes (g.Timed op left right) =
    put (emit put o variables (emit put o variables nodes left) right)
    (timed_node op (last_place (emit put o variables nodes left))
    (last_place (emit put o variables (emit put o variables nodes left) right)))
emit put o variables nodes (g.And left right) =
    put (emit put o variables (emit put o variables nodes left) right)
    (node.And (last_place (emit put o variables nodes left))
    (last_place (emit put o variables (emit put o variables nodes left) right)))
emit put o variables nodes (g.Or left right) =
    put (emit put o variables (emit put o variables nodes left) right)
    (node.Or (last_place (emit put o variables nodes left))
    (last_place (emit put o variables (emit put o variables nodes left) right)))

-- the node table of a formula, in post-order
abbrev pub table_said : Declared → List (List ℕ) → g.Tree → List Node
table_said o variables tree = emit with_node o variables [] tree

abbrev pub query_said : Declared → List ℕ → List (List ℕ) → g.Tree → Tcq
query_said o name variables tree = record {
  name = name;
  vars = length variables;
  nodes =
      table_said o variables tree;
}

-- the queries in the order of the file
abbrev pub queries_said : Declared → g.File → List Tcq
queries_said o g.Empty = []
queries_said o (g.More front name variables tree) =
    queries_said o front ++ query_said o name variables tree ∷ []
