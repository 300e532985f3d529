-- The leaves of lists of nodes and of queries, part by part.
use Rattle.std.proofs.Common.{◌≡◌, ℕ, ◌+◌, ◌<◌, ◌≤◌, List, [], ◌∷◌, ◌++◌, length, take, drop}
use Rattle.std.proofs.Common.{get_or, inl, inr, sym, ◌∙◌, ap, subst, arith, append_assoc}
use Rattle.std.specs.List.{Contains}
use Rattle.std.proofs.lemmas.List.{take_more, take-append-drop, append-nil, length-take}
use Rattle.std.proofs.lemmas.List.Elements.{Contains-append_left, Contains-append_right}
use Rattle.std.proofs.lemmas.List.Elements.{Contains-append_cases}
use Rattle.std.proofs.lemmas.Grind.{flat_map-append}
use Rattle.list_lemmas.proofs.Elements.{Contains-none, Contains-first, Contains-later}
use Rattle.list_lemmas.proofs.Elements.{Contains-cons_cases}
use Rattle.tcq_syntax.specs.declared.nodes.Node.{Node}
use Rattle.tcq_syntax.specs.declared.nodes.Node.TheVariants as node
use Rattle.tcq_syntax.specs.Tcq.{Tcq}
use Rattle.progression.specs.Tables.{leaves_of as leaves_in}
use Rattle.monitor_core.specs.Opening.{all_leaves}
use Rattle.rewriting_text.specs.Leaves.{NamedLeaf, leaf_of, leaves_from, leaves_of, leaves}

-- the leaves among nodes in two parts
leaves-append : (name : List ℕ) (place : ℕ) (xs ys : List Node)
    → leaves_from name place (xs ++ ys) ≡ leaves_from name place xs
    ++ leaves_from name (place + length xs) ys
leaves-append name place [] ys = ap (λ (p : ℕ). leaves_from name p ys) (omega arith)
leaves-append name place (x ∷ xs) ys =
    let further : place + 1 + length xs ≡ place + length (x ∷ xs) = omega arith in
    ap (λ (ls : List NamedLeaf). leaf_of name place x ++ ls)
    (leaves-append name (place + 1) xs ys ∙ ap (λ (p : ℕ).
    leaves_from name (place + 1) xs ++ leaves_from name p ys) further)
    ∙ sym (append_assoc (leaf_of name place x) (leaves_from name (place + 1) xs)
    (leaves_from name (place + length (x ∷ xs)) ys))

length-front : {X : Type 0} (xs : List X) (i : ℕ) → i ≤ length xs → length (take i xs) ≡ i
length-front xs i within = omega (arith, length-take i xs)

-- the leaves among one more node
pub leaves_more : (name : List ℕ) (nodes : List Node) (i : ℕ) (d : Node) → i < length nodes
    → leaves_from name 0 (take (i + 1) nodes)
    ≡ leaves_from name 0 (take i nodes) ++ leaf_of name i (get_or nodes i d)
leaves_more name nodes i d below =
    let there : 0 + length (take i nodes) ≡ i = omega (arith, length-front nodes i (omega arith)) in
    ap (leaves_from name 0) (take_more nodes i d below)
    ∙ (leaves-append name 0 (take i nodes) (get_or nodes i d ∷ [])
    ∙ (ap (λ (p : ℕ). leaves_from name 0 (take i nodes)
    ++ leaves_from name p (get_or nodes i d ∷ [])) there
    ∙ ap (λ (ls : List NamedLeaf). leaves_from name 0 (take i nodes) ++ ls)
    (append-nil (leaf_of name i (get_or nodes i d)))))

-- and the leaves after them
pub leaves_split : (name : List ℕ) (nodes : List Node) (i : ℕ) (d : Node) → i < length nodes
    → leaves_from name 0 nodes ≡ (leaves_from name 0 (take i nodes)
    ++ leaf_of name i (get_or nodes i d)) ++ leaves_from name (0 + length (take (i + 1) nodes))
    (drop (i + 1) nodes)
leaves_split name nodes i d below =
    ap (leaves_from name 0) (sym (take-append-drop (i + 1) nodes))
    ∙ (leaves-append name 0 (take (i + 1) nodes) (drop (i + 1) nodes)
    ∙ ap (λ (ls : List NamedLeaf). ls ++ leaves_from name (0 + length (take (i + 1) nodes))
    (drop (i + 1) nodes)) (leaves_more name nodes i d below))

-- the leaves of one more query
pub queries_more : (queries : List Tcq) (i : ℕ) (d : Tcq) → i < length queries
    → leaves (take (i + 1) queries) ≡ leaves (take i queries) ++ leaves_of (get_or queries i d)
queries_more queries i d below =
    ap leaves (take_more queries i d below)
    ∙ (flat_map-append leaves_of (take i queries) (get_or queries i d ∷ [])
    ∙ ap (λ (ls : List NamedLeaf). leaves (take i queries) ++ ls)
    (append-nil (leaves_of (get_or queries i d))))

pub queries_split : (queries : List Tcq) (i : ℕ) (d : Tcq) → i < length queries
    → leaves queries ≡ (leaves (take i queries) ++ leaves_of (get_or queries i d))
    ++ leaves (drop (i + 1) queries)
queries_split queries i d below =
    ap leaves (sym (take-append-drop (i + 1) queries))
    ∙ (flat_map-append leaves_of (take (i + 1) queries) (drop (i + 1) queries)
    ∙ ap (λ (ls : List NamedLeaf). ls ++ leaves (drop (i + 1) queries))
    (queries_more queries i d below))

module _ (leaf : NamedLeaf) where
  among_nodes : (name : List ℕ) (place : ℕ) (nodes : List Node)
      → Contains (leaves_from name place nodes) leaf → Contains (leaves_in nodes) leaf.asks
  among_nodes name place [] there = absurd (Contains-none leaf there)
  among_nodes name place (node.Leaf q ∷ nodes) there =
      elim (Contains-cons_cases (record { name = name; place = place; asks = q })
      (leaves_from name (place + 1) nodes) leaf there) [
        | inl same ↦ subst (λ (l : NamedLeaf). Contains (q ∷ leaves_in nodes) l.asks) same
            (Contains-first q (leaves_in nodes))
        | inr later ↦ Contains-later q (leaves_in nodes) leaf.asks
            (among_nodes name (place + 1) nodes later)
      ]
  among_nodes name place (node.True ∷ nodes) there = among_nodes name (place + 1) nodes there
  among_nodes name place (node.False ∷ nodes) there = among_nodes name (place + 1) nodes there
  among_nodes name place (node.And f g ∷ nodes) there = among_nodes name (place + 1) nodes there
  among_nodes name place (node.Or f g ∷ nodes) there = among_nodes name (place + 1) nodes there
  among_nodes name place (node.Next f ∷ nodes) there = among_nodes name (place + 1) nodes there
  among_nodes name place (node.WeakNext f ∷ nodes) there = among_nodes name (place + 1) nodes there
  among_nodes name place (node.Prev f ∷ nodes) there = among_nodes name (place + 1) nodes there
  among_nodes name place (node.WeakPrev f ∷ nodes) there = among_nodes name (place + 1) nodes there
  among_nodes name place (node.Until f g ∷ nodes) there = among_nodes name (place + 1) nodes there
  among_nodes name place (node.Since f g ∷ nodes) there = among_nodes name (place + 1) nodes there
  among_nodes name place (node.Eventually f ∷ nodes) there =
      among_nodes name (place + 1) nodes there
  among_nodes name place (node.Always f ∷ nodes) there = among_nodes name (place + 1) nodes there
  among_nodes name place (node.Once f ∷ nodes) there = among_nodes name (place + 1) nodes there
  among_nodes name place (node.Historically f ∷ nodes) there =
      among_nodes name (place + 1) nodes there

  -- what a leaf of queries asks is among what the monitor's leaves ask
  pub among_all : (queries : List Tcq) → Contains (leaves queries) leaf
      → Contains (all_leaves queries) leaf.asks
  among_all [] there = absurd (Contains-none leaf there)
  among_all (q ∷ queries) there =
      elim (Contains-append_cases (leaves_of q) (leaves queries) leaf there) [
        | inl here ↦ Contains-append_left (leaves_in q.nodes) (all_leaves queries) leaf.asks
            (among_nodes q.name 0 q.nodes here)
        | inr later ↦ Contains-append_right (leaves_in q.nodes) (all_leaves queries) leaf.asks
            (among_all queries later)
      ]
