-- The leaf at a place.
use Rattle.std.proofs.Common.{◌≡◌, ℕ, List, sym, ◌∙◌, ap}
use Rattle.std.specs.Prelude.{Option, Some, None, IfSome, slice_get}
use Rattle.std.specs.Option.{option_map}
use Rattle.std.specs.Borrow.{Bor}
use Rattle.std.proofs.lemmas.Option.{none-some}
use Rattle.std.specs.List.{All}
use Rattle.dl_syntax.specs.declared.queries.Cq.{Cq}
use Rattle.dl_syntax.specs.Queries.{IsBound}
use Rattle.tcq_syntax.specs.declared.nodes.Node.{Node}
use Rattle.tcq_syntax.specs.declared.nodes.Node.TheVariants as node
use Rattle.tcq_syntax.specs.Tcq.{Tcq, IsTcq}
use Rattle.run_proofs.specs.Shows.{leaf_of_node, leaf_of_query, leaf_at}

pub no_query : (queries : List Tcq) (query leaf : ℕ) → slice_get queries query ≡ None
    → leaf_at queries query leaf ≡ None
no_query queries query leaf none = ap (λ (found : Option Tcq). leaf_of_query found leaf) none

pub node_there : (queries : List Tcq) (query leaf : ℕ) (known : Tcq) (found : Option Node)
    → slice_get queries query ≡ Some known → slice_get known.nodes leaf ≡ found
    → leaf_at queries query leaf ≡ leaf_of_node found
node_there queries query leaf known found there at =
    ap (λ (q : Option Tcq). leaf_of_query q leaf) there ∙ ap leaf_of_node at

bound_leaf : (vars place : ℕ) (nodes : List Node) (n : Node) (q : Cq) → IsTcq vars nodes
    → slice_get nodes place ≡ Some n → leaf_of_node (Some n) ≡ Some q → All (IsBound q.body) q.head
bound_leaf vars place nodes (node.Leaf p) q valid at is =
    let same : p ≡ q = cc in
    (valid.leaves place q (at ∙ ap (λ (x : Cq). Some (node.Leaf x)) same)).query.head_bound
bound_leaf vars place nodes _ q valid at is = absurd (none-some q is)

pub leaf_bound : (vars place : ℕ) (nodes : List Node) (n : Node) (result : Option (Bor Cq))
    → IsTcq vars nodes → slice_get nodes place ≡ Some n
    → option_map (λ q. q.now) result ≡ leaf_of_node (Some n)
    → IfSome result (λ q. All (IsBound q.now.body) q.now.head)
leaf_bound vars place nodes n None valid at is = tt
leaf_bound vars place nodes n (Some q) valid at is =
    bound_leaf vars place nodes n q.now valid at (sym is)
