-- The leaves of a table of nodes, and lists that are gathered for them.
use Rattle.std.proofs.Common.{◌≡◌, ℕ, suc, ◌+◌, ◌<◌, ◌≤◌, List, [], ◌∷◌, ◌++◌, take, length, get_or}
use Rattle.std.proofs.Common.{refl, sym, ◌∙◌, ap, subst, arith}
use Rattle.std.specs.Prelude.{Some}
use Rattle.std.specs.List.{AllPairs, Contains}
use Rattle.std.proofs.lemmas.List.{take_more}
use Rattle.std.proofs.lemmas.List.Elements.{All-contains}
use Rattle.std.proofs.lemmas.Option.{slice_get-get_or}
use Rattle.dl_syntax.specs.declared.queries.Term.{Term}
use Rattle.dl_syntax.specs.declared.queries.Term.TheVariants.{Var}
use Rattle.dl_syntax.specs.declared.queries.Cq.{Cq}
use Rattle.dl_syntax.specs.Queries.{IsQuery}
use Rattle.list_lemmas.proofs.Elements.{AllPairs-tail, AllPairs-head, Contains-first}
use Rattle.list_lemmas.proofs.Elements.{Contains-later}
use Rattle.tcq_syntax.specs.declared.nodes.Node.{Node}
use Rattle.tcq_syntax.specs.declared.nodes.Node.TheVariants as node
use Rattle.tcq_syntax.specs.Tcq.{IsTcq, IsAnswerHead}
use Rattle.model_audit.specs.Rows.{leaf_queries}

leaf_queries-append : (front rest : List Node) → leaf_queries (front ++ rest) ≡ leaf_queries front
    ++ leaf_queries rest
leaf_queries-append [] rest = refl
leaf_queries-append (node.Leaf q ∷ front) rest =
    ap (λ (qs : List Cq). q ∷ qs) (leaf_queries-append front rest)
leaf_queries-append (node.True ∷ front) rest = leaf_queries-append front rest
leaf_queries-append (node.False ∷ front) rest = leaf_queries-append front rest
leaf_queries-append (node.And a b ∷ front) rest = leaf_queries-append front rest
leaf_queries-append (node.Or a b ∷ front) rest = leaf_queries-append front rest
leaf_queries-append (node.Next a ∷ front) rest = leaf_queries-append front rest
leaf_queries-append (node.WeakNext a ∷ front) rest = leaf_queries-append front rest
leaf_queries-append (node.Prev a ∷ front) rest = leaf_queries-append front rest
leaf_queries-append (node.WeakPrev a ∷ front) rest = leaf_queries-append front rest
leaf_queries-append (node.Until a b ∷ front) rest = leaf_queries-append front rest
leaf_queries-append (node.Since a b ∷ front) rest = leaf_queries-append front rest
leaf_queries-append (node.Eventually a ∷ front) rest = leaf_queries-append front rest
leaf_queries-append (node.Always a ∷ front) rest = leaf_queries-append front rest
leaf_queries-append (node.Once a ∷ front) rest = leaf_queries-append front rest
leaf_queries-append (node.Historically a ∷ front) rest = leaf_queries-append front rest

pub leaves_taken : (nodes : List Node) (k : ℕ) (d : Node) → k < length nodes
    → leaf_queries (take (k + 1) nodes) ≡ leaf_queries (take k nodes)
    ++ leaf_queries (get_or nodes k d ∷ [])
leaves_taken nodes k d within =
    ap leaf_queries (take_more nodes k d within)
    ∙ leaf_queries-append (take k nodes) (get_or nodes k d ∷ [])

pub leaves_taken_item : (nodes : List Node) (k : ℕ) (n : Node) → k < length nodes
    → n ≡ get_or nodes k n
    → leaf_queries (take (k + 1) nodes) ≡ leaf_queries (take k nodes) ++ leaf_queries (n ∷ [])
leaves_taken_item nodes k n within is =
    leaves_taken nodes k n within
    ∙ ap (λ (m : Node). leaf_queries (take k nodes) ++ leaf_queries (m ∷ [])) (sym is)

abbrev Rises : Term → Term → Type 0
Rises x y = (v w : ℕ) → x ≡ Var v → y ≡ Var w → v < w

-- variables that rise from one number on and stay below another are few
few_rising : (low high : ℕ) (xs : List Term) → AllPairs Rises xs
    → ((x : Term) → Contains xs x → (v : ℕ) × (x ≡ Var v) × (low ≤ v) × (v < high)) → low ≤ high
    → low + length xs ≤ high
few_rising low high [] rising bounds le = omega arith
few_rising low high (x ∷ xs) rising bounds le =
    let here : (v : ℕ) × (x ≡ Var v) × (low ≤ v) × (v < high) = bounds x (Contains-first x xs) in
    let later : suc here.0 + length xs ≤ high =
    few_rising (suc here.0) high xs (AllPairs-tail Rises x xs rising) (λ y there.
    let next : (w : ℕ) × (y ≡ Var w) × (low ≤ w) × (w < high) =
    bounds y (Contains-later x xs y there) in
    (next.0, next.1, AllPairs-head Rises x xs y rising there here.0 next.0 here.1 next.1, next.3))
    (here.3) in
    omega (arith, here.2)

short_head : (vars : ℕ) (q : Cq) → IsAnswerHead vars q → length q.head ≤ vars
short_head vars q is = let most : 0 + length q.head ≤ vars =
    few_rising 0 vars q.head is.rising (λ x there.
    let variable : (v : ℕ) × (x ≡ Var v) =
    All-contains (λ (y : Term). (v : ℕ) × (y ≡ Var v)) q.head x is.variables there in
    let bound = (is.member variable.0).0 (subst (Contains q.head) variable.1 there) in
    (variable.0, variable.1, omega arith, bound.0)) (omega arith) in
    omega arith

pub leaf_fits : (vars : ℕ) (nodes : List Node) (k : ℕ) (d : Node) (q : Cq) → IsTcq vars nodes
    → k < length nodes
    → get_or nodes k d ≡ node.Leaf q → IsQuery q × (length q.head ≤ 4)
leaf_fits vars nodes k d q tcq within is =
    let leaf = tcq.leaves k q (slice_get-get_or nodes k d within ∙ ap Some is) in (
      leaf.query,
      let short : length q.head ≤ vars = short_head vars q leaf.head in
          let few : vars ≤ 4 = tcq.few_variables in omega arith,
    )
