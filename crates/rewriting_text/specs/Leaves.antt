-- The leaves of queries, and what is told of their rewritings.
use Rattle.std.specs.Prelude.{◌≡◌, ℕ, ◌+◌, List, [], ◌∷◌, ◌++◌, codes, flat_map, length, map, Vec}
use Rattle.std.specs.Global.{Global}
use Rattle.std.specs.List.{Contains}
use Rattle.std.specs.List.Sorted.{IsPermutation, IsSorted}
use Rattle.std.specs.Cmp.Lexicographic.{slice_cmp}
use Rattle.std.specs.Ordering.{nat_cmp}
use Rattle.dl_syntax.specs.declared.queries.Cq.{Cq}
use Rattle.dl_syntax.specs.Ontology.{Declared}
use Rattle.tcq_syntax.specs.declared.nodes.Node.{Node}
use Rattle.tcq_syntax.specs.declared.nodes.Node.TheVariants as node
use Rattle.tcq_syntax.specs.Tcq.{Tcq}
use Rattle.perfect_ref.specs.Plain.{Encoded, Lists, Reachable, PlainReachable, HoldsOfMore}
use Rattle.perfect_ref.specs.Plain.{encoded}
use Rattle.report_text.specs.Queries.{cq_text, leaf_line}
use Rattle.monitor_core.specs.Setting.{Setting}

-- a leaf by its query's name and its place among the nodes, and the conjunctive query that it asks
pub record NamedLeaf : Type 0 where
  pub name : List ℕ
  pub place : ℕ
  pub asks : Cq

-- the leaf that a node is, if it is one
abbrev pub leaf_of : List ℕ → ℕ → Node → List NamedLeaf
leaf_of name place (node.Leaf q) = record { name = name; place = place; asks = q } ∷ []
leaf_of name place _ = []

-- the leaves among nodes in their order, of which the first has this place
abbrev pub leaves_from : List ℕ → ℕ → List Node → List NamedLeaf
leaves_from name place [] = []
leaves_from name place (n ∷ nodes) = leaf_of name place n ++ leaves_from name (place + 1) nodes

abbrev pub leaves_of : Tcq → List NamedLeaf
leaves_of query = leaves_from query.name 0 query.nodes

-- the leaves of queries in their order
abbrev pub leaves : List Tcq → List NamedLeaf
leaves queries = flat_map leaves_of queries

-- the texts of the queries of a rewriting, one for each, in the order of their bytes
pub record AreTexts (ontology : Declared) (q : Cq) (texts : List (List ℕ)) : Type 0 where
  pub members : List Cq
  pub lists : Lists (PlainReachable (encoded ontology) q) members
  pub arranged : IsPermutation (map (cq_text ontology) members) texts
  pub sorted : IsSorted (slice_cmp nat_cmp) texts

-- the bytes of each text
abbrev pub bytes_of_each : List (Vec ℕ Global) → List (List ℕ)
bytes_of_each texts = map (λ text. text.items) texts

-- texts as lines
abbrev pub text_lines : List (List ℕ) → List ℕ
text_lines texts = flat_map (λ text. text ++ codes "\n") texts

-- what is told of a leaf: how many queries its rewriting has, and then each of them
pub record TellsLeaf (ontology : Declared) (leaf : NamedLeaf) (told : List ℕ) : Type 0 where
  pub texts : List (List ℕ)
  pub are : AreTexts ontology leaf.asks texts
  pub is : told ≡ leaf_line leaf.name leaf.place (length texts) ++ text_lines texts

-- a text gained what is told of a leaf
pub record TellsMore (ontology : Declared) (leaf : NamedLeaf) (before now : List ℕ) : Type 0 where
  pub told : List ℕ
  pub tells : TellsLeaf ontology leaf told
  pub gains : now ≡ before ++ told

-- one of the leaves reaches by itself more queries than may be reached in all
pub record HasLargeLeaf (e : Encoded) (leaves : List NamedLeaf) : Type 0 where
  pub leaf : NamedLeaf
  pub there : Contains leaves leaf
  pub reaches : HoldsOfMore (Reachable e leaf.asks) 1048576

-- what is told of leaves in their order
abbrev pub TellsLeaves : Declared → List NamedLeaf → List ℕ → Type 0
TellsLeaves ontology [] told = told ≡ []
TellsLeaves ontology (leaf ∷ leaves) told =
    (first rest : List ℕ)
    × TellsLeaf ontology leaf first
    × TellsLeaves ontology leaves rest
    × (told ≡ first ++ rest)

-- a text gained what is told of leaves
pub record TellsMoreLeaves (ontology : Declared) (leaves : List NamedLeaf) (before now : List ℕ)
    : Type 0 where
  pub told : List ℕ
  pub tells : TellsLeaves ontology leaves told
  pub gains : now ≡ before ++ told

-- the text of the rewritings of all leaves
abbrev pub IsRewriting : Setting → List ℕ → Type 0
IsRewriting setting text = TellsLeaves setting.ontology (leaves setting.queries) text

-- the rewritings of the same queries are one text
abbrev pub OneRewriting : Type 0
OneRewriting = (setting : Setting) (one other : List ℕ) → IsRewriting setting one
    → IsRewriting setting other → one ≡ other
