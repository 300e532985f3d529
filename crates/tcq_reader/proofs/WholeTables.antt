-- A table that keeps no more than one node too many is the front of the whole one.
use Rattle.std.proofs.Common.{◌≡◌, ℕ, ◌<◌, ◌≤◌, Bool, true, false, cond, ltb, List, [], ◌∷◌, ◌++◌}
use Rattle.std.proofs.Common.{length, refl, ap, ◌∙◌, arith}
use Rattle.dl_syntax.specs.Ontology.{Declared}
use Rattle.tcq_syntax.specs.declared.nodes.Node.{Node}
use Rattle.tcq_syntax.specs.declared.nodes.Node.TheVariants as node
use Rattle.tcq_grammar.specs.declared.words.UnaryOp.{UnaryOp}
use Rattle.tcq_grammar.specs.declared.words.TimedOp.{TimedOp}
use Rattle.tcq_grammar.specs.Grammar.{Tree, Truth, Falsity, Leaf, Apply, Group, Timed, And, Or}
use Rattle.tcq_reader.specs.Leaves.{leaf_said}
use Rattle.tcq_reader.specs.Meaning.{unary_node, timed_node, last_place, with_node, emit}
use Rattle.tcq_reader.specs.Meaning.{table_said}
use Rattle.tcq_reader.specs.Building.{put}
use Rattle.std.specs.Prelude.{◌⊎◌}
use Rattle.std.proofs.Common.{inl, inr, length-append}
use Rattle.tcq_syntax.specs.Formula as fm
use Rattle.tcq_syntax.specs.Tcq.{post_order, IsPostOrder}
use Rattle.tcq_grammar.specs.declared.words.UnaryOp.TheVariants as unary
use Rattle.tcq_grammar.specs.declared.words.TimedOp.TheVariants as timed

-- the same table, or both with too many nodes
abbrev pub Caps : List Node → List Node → Type 0
Caps kept whole = (kept ≡ whole) ⊎ ((64 < length kept) × (64 < length whole))

length_put_if : (b : Bool) (nodes : List Node) (n : Node)
    → length nodes ≤ length (cond b (with_node nodes n) nodes)
length_put_if true nodes n = omega (arith, length-append nodes (n ∷ []))
length_put_if false nodes n = omega arith

length_put : (nodes : List Node) (n : Node) → length nodes ≤ length (put nodes n)
length_put nodes n = length_put_if (ltb (length nodes) 65) nodes n

longer : (nodes : List Node) (n : Node) → length nodes ≤ length (with_node nodes n)
longer nodes n = omega (arith, length-append nodes (n ∷ []))

caps_if : (b : Bool) (kept whole : List Node) (n m : Node) → ltb (length kept) 65 ≡ b → kept ≡ whole
    → n ≡ m → Caps (cond b (with_node kept n) kept) (with_node whole m)
caps_if true kept whole n m t e f = inl (rw (e, f) refl)
caps_if false kept whole n m t e f =
    let past : 65 ≤ length kept = grind arith in
    let same : length kept ≡ length whole = ap length e in
    inr (omega arith, omega (arith, same, longer whole m))

caps_put : (kept whole : List Node) (n m : Node) → (kept ≡ whole → n ≡ m) → Caps kept whole
    → Caps (put kept n) (with_node whole m)
caps_put kept whole n m same (inl e) = caps_if (ltb (length kept) 65) kept whole n m refl e (same e)
caps_put kept whole n m same (inr h) =
    inr (omega (arith, h.0, length_put kept n), omega (arith, h.1, longer whole m))

-- a node with two children, of which the first is the last place of an earlier table
caps_pair : (f : ℕ → ℕ → Node) (k1 w1 k2 w2 : List Node) → Caps k1 w1 → Caps k2 w2
    → length k1 ≤ length k2
    → Caps (put k2 (f (last_place k1) (last_place k2)))
    (with_node w2 (f (last_place w1) (last_place w2)))
caps_pair f k1 w1 k2 w2 (inl e) h le = caps_put k2 w2 _ _ (λ e2. rw (e, e2) refl) h
caps_pair f k1 w1 k2 w2 (inr h1) (inl e) le =
    let same : length k2 ≡ length w2 = ap length e in
    inr (
      omega (arith, h1.0, le, length_put k2 (f (last_place k1) (last_place k2))),
      omega
          (arith, h1.0, le, same, longer w2 (f (last_place w1) (last_place w2))),
    )
caps_pair f k1 w1 k2 w2 (inr h1) (inr h2) le =
    inr (
      omega (arith, h2.0, length_put k2 (f (last_place k1) (last_place k2))),
      omega
          (arith, h2.1, longer w2 (f (last_place w1) (last_place w2))),
    )

module _ (o : Declared) (vs : List (List ℕ)) where
  grows : (tree : Tree) (nodes : List Node) → length nodes ≤ length (emit put o vs nodes tree)
  grows Truth nodes = length_put nodes node.True
  grows Falsity nodes = length_put nodes node.False
  grows (Leaf front last) nodes = length_put nodes (node.Leaf (leaf_said o vs (front ++ last ∷ [])))
  grows (Apply op body) nodes =
      omega (
        arith,
        grows body nodes,
        length_put (emit put o vs nodes body)
            (unary_node op (last_place (emit put o vs nodes body))),
      )
  grows (Group body) nodes = grows body nodes
  grows (Timed op left right) nodes =
      let l = emit put o vs nodes left in
      let r = emit put o vs l right in
      omega (
        arith,
        grows left nodes,
        grows right l,
        length_put r
            (timed_node op (last_place l) (last_place r)),
      )
  grows (And left right) nodes =
      let l = emit put o vs nodes left in
      let r = emit put o vs l right in
      omega (
        arith,
        grows left nodes,
        grows right l,
        length_put r
            (node.And (last_place l) (last_place r)),
      )
  grows (Or left right) nodes =
      let l = emit put o vs nodes left in
      let r = emit put o vs l right in
      omega (
        arith,
        grows left nodes,
        grows right l,
        length_put r
            (node.Or (last_place l) (last_place r)),
      )

  caps : (tree : Tree) (kept whole : List Node) → Caps kept whole
      → Caps (emit put o vs kept tree) (emit with_node o vs whole tree)
  caps Truth kept whole h = caps_put kept whole node.True node.True (λ _. refl) h
  caps Falsity kept whole h = caps_put kept whole node.False node.False (λ _. refl) h
  caps (Leaf front last) kept whole h =
      caps_put kept whole (node.Leaf (leaf_said o vs (front ++ last ∷ [])))
      (node.Leaf (leaf_said o vs (front ++ last ∷ []))) (λ _. refl) h
  caps (Apply op body) kept whole h =
      caps_put (emit put o vs kept body) (emit with_node o vs whole body) _ _ (λ e.
      ap (λ (ns : List Node). unary_node op (last_place ns)) e) (caps body kept whole h)
  caps (Group body) kept whole h = caps body kept whole h
  caps (Timed op left right) kept whole h =
      let k1 = emit put o vs kept left in
      let w1 = emit with_node o vs whole left in
      let first = caps left kept whole h in
      caps_pair (timed_node op) k1 w1 (emit put o vs k1 right) (emit with_node o vs w1 right) first
      (caps right k1 w1 first) (grows right k1)
  caps (And left right) kept whole h =
      let k1 = emit put o vs kept left in
      let w1 = emit with_node o vs whole left in
      let first = caps left kept whole h in
      caps_pair (λ a b. node.And a b) k1 w1 (emit put o vs k1 right) (emit with_node o vs w1 right)
      first (caps right k1 w1 first) (grows right k1)
  caps (Or left right) kept whole h =
      let k1 = emit put o vs kept left in
      let w1 = emit with_node o vs whole left in
      let first = caps left kept whole h in
      caps_pair (λ a b. node.Or a b) k1 w1 (emit put o vs k1 right) (emit with_node o vs w1 right)
      first (caps right k1 w1 first) (grows right k1)

  pub table_caps : (tree : Tree) → Caps (emit put o vs [] tree) (table_said o vs tree)
  table_caps tree = caps tree [] [] (inl refl)

  -- the formula of a tree; the numbers of its future nodes are not told by its table
  abbrev unary_formula : UnaryOp → fm.Formula → fm.Formula
  unary_formula unary.Next f = fm.Next 0 f
  unary_formula unary.WeakNext f = fm.WeakNext 0 f
  unary_formula unary.Prev f = fm.Prev f
  unary_formula unary.WeakPrev f = fm.WeakPrev f
  unary_formula unary.Eventually f = fm.Eventually 0 f
  unary_formula unary.Always f = fm.Always 0 f
  unary_formula unary.Once f = fm.Once f
  unary_formula unary.Historically f = fm.Historically f

  abbrev timed_formula : TimedOp → fm.Formula → fm.Formula → fm.Formula
  timed_formula timed.Until f g = fm.Until 0 f g
  timed_formula timed.Since f g = fm.Since f g

  abbrev formula : Tree → fm.Formula
  formula Truth = fm.True
  formula Falsity = fm.False
  formula (Leaf front last) = fm.Leaf (leaf_said o vs (front ++ last ∷ []))
  formula (Apply op body) = unary_formula op (formula body)
  formula (Group body) = formula body
  formula (Timed op left right) = timed_formula op (formula left) (formula right)
  formula (And left right) = fm.And (formula left) (formula right)
  formula (Or left right) = fm.Or (formula left) (formula right)

  unary_order : (op : UnaryOp) (f : fm.Formula) (before : List Node)
      → with_node (post_order before f) (unary_node op (last_place (post_order before f)))
      ≡ post_order before (unary_formula op f)
  unary_order unary.Next f before = refl
  unary_order unary.WeakNext f before = refl
  unary_order unary.Prev f before = refl
  unary_order unary.WeakPrev f before = refl
  unary_order unary.Eventually f before = refl
  unary_order unary.Always f before = refl
  unary_order unary.Once f before = refl
  unary_order unary.Historically f before = refl

  timed_order : (op : TimedOp) (f g : fm.Formula) (before : List Node)
      → with_node (post_order (post_order before f) g)
      (timed_node op (last_place (post_order before f))
      (last_place (post_order (post_order before f) g)))
      ≡ post_order before (timed_formula op f g)
  timed_order timed.Until f g before = refl
  timed_order timed.Since f g before = refl

  pair_order : (n : ℕ → ℕ → Node) (l l' r r' : List Node) → l ≡ l' → r ≡ r'
      → with_node r (n (last_place l) (last_place r))
      ≡ with_node r' (n (last_place l') (last_place r'))
  pair_order n l l' r r' e f = rw (e, f) refl

  ordered : (tree : Tree) (before : List Node)
      → emit with_node o vs before tree ≡ post_order before (formula tree)
  ordered Truth before = refl
  ordered Falsity before = refl
  ordered (Leaf front last) before = refl
  ordered (Apply op body) before =
      ap (λ (ns : List Node). with_node ns (unary_node op (last_place ns)))
      (ordered body before) ∙ unary_order op (formula body) before
  ordered (Group body) before = ordered body before
  ordered (Timed op left right) before =
      let l = ordered left before in
      let r = ap (λ (ns : List Node). emit with_node o vs ns right) l ∙ ordered right
      (post_order before (formula left)) in
      pair_order (timed_node op) _ _ _ _ l r ∙ timed_order op (formula left) (formula right) before
  ordered (And left right) before =
      let l = ordered left before in
      let r = ap (λ (ns : List Node). emit with_node o vs ns right) l ∙ ordered right
      (post_order before (formula left)) in
      pair_order (λ a b. node.And a b) _ _ _ _ l r
  ordered (Or left right) before =
      let l = ordered left before in
      let r = ap (λ (ns : List Node). emit with_node o vs ns right) l ∙ ordered right
      (post_order before (formula left)) in
      pair_order (λ a b. node.Or a b) _ _ _ _ l r

  pub is_post_order : (tree : Tree) → IsPostOrder (table_said o vs tree)
  is_post_order tree = (formula tree, ordered tree [])
