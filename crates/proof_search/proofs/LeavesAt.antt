-- The leaf at a place of queries.
use Rattle.std.proofs.Common.{◌≡◌, ℕ, List, refl, sym, ◌∙◌, ap}
use Rattle.std.specs.Prelude.{Option, Some, None, IfSome, MatchOption, slice_get}
use Rattle.std.specs.Option.{option_map}
use Rattle.std.specs.Borrow.{Bor}
use Rattle.std.specs.List.{All, AllZip}
use Rattle.std.specs.Prelude.{Vec}
use Rattle.std.specs.Global.{Global}
use Rattle.std.proofs.lemmas.Option.{none-some}
use Rattle.std.proofs.lemmas.List.Elements.{All-contains}
use Rattle.list_lemmas.proofs.Elements.{Contains-at}
use Rattle.list_lemmas.proofs.Zipped.{AllZip-left}
use Rattle.dl_syntax.specs.declared.queries.Cq.{Cq}
use Rattle.dl_syntax.specs.Queries.{IsQuery}
use Rattle.dl_syntax.specs.Ontology.{Declared}
use Rattle.tcq_syntax.specs.declared.nodes.Node.{Node}
use Rattle.tcq_syntax.specs.declared.nodes.Node.TheVariants as node
use Rattle.tcq_syntax.specs.Tcq.{Tcq, IsTcq}
use Rattle.tcq_syntax.specs.Within.{IsDeclaredLeaf, HasDeclaredLeaves}
use Rattle.run_proofs.specs.Shows.{leaf_of_node, leaf_of_query, leaf_at}
use Rattle.proof_search.specs.declared.answer.Search.{Search}
use Rattle.proof_search.specs.Explainer.{IsSearchFor, IsSearchOf, AreSearchesOf}

-- a node that has a query is a leaf
leaf_is : (n : Option Node) (q : Cq) → leaf_of_node n ≡ Some q → n ≡ Some (node.Leaf q)
leaf_is None q is = absurd (none-some q is)
leaf_is (Some (node.Leaf p)) q is =
    let same : p ≡ q = cc in ap (λ (x : Cq). Some (node.Leaf x)) same
leaf_is (Some _) q is = absurd (none-some q is)

-- the query of the number has the leaf among its nodes
pub record IsLeafAt (queries : List Tcq) (query leaf : ℕ) (q : Cq) : Type 0 where
  pub known : Tcq
  pub there : slice_get queries query ≡ Some known
  pub at : slice_get known.nodes leaf ≡ Some (node.Leaf q)

pub leaf_there : (queries : List Tcq) (query leaf : ℕ) (q : Cq)
    → leaf_at queries query leaf ≡ Some q → IsLeafAt queries query leaf q
leaf_there queries query leaf q is = by (slice_get queries query) refl is
  where
    by : (known : Option Tcq) → slice_get queries query ≡ known → leaf_of_query known leaf ≡ Some q
        → IsLeafAt queries query leaf q
    by None there at = absurd (none-some q at)
    by (Some known) there at = record {
      known = known;
      there = there;
      at = leaf_is (slice_get known.nodes leaf) q at;
    }

-- it names only what is declared
pub leaf_declared : (o : Declared) (queries : List Tcq) (query leaf : ℕ) (q : Cq)
    → All (HasDeclaredLeaves o) queries → leaf_at queries query leaf ≡ Some q → IsDeclaredLeaf o q
leaf_declared o queries query leaf q declared is =
    let there : IsLeafAt queries query leaf q = leaf_there queries query leaf q is in
    All-contains (HasDeclaredLeaves o) queries there.known declared
    (Contains-at queries query there.known there.there) leaf q there.at

-- and has a search
pub search_there : (o : Declared) (room : ℕ) (queries : List Tcq)
    (leaves : List (Vec (Option Search) Global)) (query leaf : ℕ) (q : Cq)
    → AllZip (AreSearchesOf o room) queries leaves
    → leaf_at queries query leaf ≡ Some q
    → (searches : Vec (Option Search) Global) × (search : Option Search)
    × (slice_get leaves query ≡ Some searches) × (slice_get searches.items leaf ≡ Some search)
    × MatchOption search ⊥ (IsSearchFor o room q)
search_there o room queries leaves query leaf q zipped is =
    let there : IsLeafAt queries query leaf q = leaf_there queries query leaf q is in
    let found : (searches : Vec (Option Search) Global)
    × (slice_get leaves query ≡ Some searches) × AreSearchesOf o room there.known searches =
    AllZip-left (AreSearchesOf o room) queries leaves query there.known zipped there.there in
    let one : (search : Option Search) × (slice_get found.0.items leaf ≡ Some search)
    × IsSearchOf o room (node.Leaf q) search =
    AllZip-left (IsSearchOf o room) there.known.nodes found.0.items leaf (node.Leaf q) found.2
    there.at in
    (found.0, one.0, found.1, one.1, own one.0 one.2)
  where
    own : (search : Option Search) → IsSearchOf o room (node.Leaf q) search
        → MatchOption search ⊥ (IsSearchFor o room q)
    own (Some search) is = is
    own None is = is

-- no query, no leaf
pub no_query : (queries : List Tcq) (query leaf : ℕ) → slice_get queries query ≡ None
    → leaf_at queries query leaf ≡ None
no_query queries query leaf none = ap (λ (found : Option Tcq). leaf_of_query found leaf) none

pub node_there : (queries : List Tcq) (query leaf : ℕ) (known : Tcq) (found : Option Node)
    → slice_get queries query ≡ Some known → slice_get known.nodes leaf ≡ found
    → leaf_at queries query leaf ≡ leaf_of_node found
node_there queries query leaf known found there at =
    ap (λ (q : Option Tcq). leaf_of_query q leaf) there ∙ ap leaf_of_node at

pub leaf_query : (vars place : ℕ) (nodes : List Node) (n : Node) (q : Cq) → IsTcq vars nodes
    → slice_get nodes place ≡ Some n → leaf_of_node (Some n) ≡ Some q → IsQuery q
leaf_query vars place nodes n q valid at is =
    (valid.leaves place q (at ∙ leaf_is (Some n) q is)).query

pub leaf_is_query : (vars place : ℕ) (nodes : List Node) (n : Node) (result : Option (Bor Cq))
    → IsTcq vars nodes → slice_get nodes place ≡ Some n
    → option_map (λ q. q.now) result ≡ leaf_of_node (Some n)
    → IfSome result (λ q. IsQuery q.now)
leaf_is_query vars place nodes n None valid at is = tt
leaf_is_query vars place nodes n (Some q) valid at is =
    leaf_query vars place nodes n q.now valid at (sym is)
