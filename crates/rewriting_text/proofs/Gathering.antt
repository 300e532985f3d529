-- What is told of leaves, gathered one after another.
use Rattle.std.proofs.Common.{◌≡◌, ℕ, Some, ◌+◌, ◌<◌, List, [], ◌∷◌, ◌++◌, length, take, drop}
use Rattle.std.proofs.Common.{get_or, refl, sym, ◌∙◌, ap, subst, arith, append_assoc}
use Rattle.std.specs.List.{Contains}
use Rattle.std.proofs.lemmas.List.{append-nil}
use Rattle.std.proofs.lemmas.List.Elements.{Contains-append_left, Contains-append_right}
use Rattle.std.proofs.lemmas.Option.{slice_get_read}
use Rattle.std.specs.Prelude.{slice_get}
use Rattle.dl_syntax.specs.declared.queries.Cq.{Cq}
use Rattle.dl_syntax.specs.Ontology.{Declared}
use Rattle.dl_syntax.specs.Queries.{IsQuery}
use Rattle.tcq_syntax.specs.declared.nodes.Node.{Node}
use Rattle.tcq_syntax.specs.declared.nodes.Node.TheVariants as node
use Rattle.tcq_syntax.specs.Tcq.{Tcq, IsTcq}
use Rattle.perfect_ref.specs.Plain.{Encoded}
use Rattle.rewriting_text.specs.Leaves.{NamedLeaf, leaf_of, leaves_from, leaves_of, leaves}
use Rattle.rewriting_text.specs.Leaves.{TellsMore, HasLargeLeaf, TellsLeaves, TellsMoreLeaves}
use Rattle.rewriting_text.proofs.LeafLists.{leaves_more, leaves_split, queries_more, queries_split}

tells_append : (o : Declared) (xs ys : List NamedLeaf) (one other : List ℕ) → TellsLeaves o xs one
    → TellsLeaves o ys other → TellsLeaves o (xs ++ ys) (one ++ other)
tells_append o [] ys one other is tells =
    subst (TellsLeaves o ys) (ap (λ (l : List ℕ). l ++ other) (sym is)) tells
tells_append o (x ∷ xs) ys one other (first, rest, leaf, later, is) tells = (
  first,
  rest ++ other,
  leaf,
  tells_append o xs ys rest other later tells,
  ap (λ (l : List ℕ).
      l ++ other) is ∙ append_assoc first rest other,
)

module _ (o : Declared) where
  pub more_none : (text : List ℕ) → TellsMoreLeaves o [] text text
  more_none text = record { told = []; tells = refl; gains = sym (append-nil text) }

  pub more_one : (leaf : NamedLeaf) (before now : List ℕ) → TellsMore o leaf before now
      → TellsMoreLeaves o (leaf ∷ []) before now
  more_one leaf before now more = record {
    told = more.told;
    tells = (more.told, [], more.tells, refl, sym (append-nil more.told));
    gains = more.gains;
  }

  -- the next leaves, where all are those so far and these
  more_next : (front next longer : List NamedLeaf) (before middle now : List ℕ)
      → longer ≡ front ++ next → TellsMoreLeaves o front before middle
      → TellsMoreLeaves o next middle now → TellsMoreLeaves o longer before now
  more_next front next longer before middle now is one other =
      subst (λ (ls : List NamedLeaf). TellsMoreLeaves o ls before now) (sym is) (record {
        told = one.told ++ other.told;
        tells = tells_append o front next one.told other.told one.tells other.tells;
        gains = other.gains ∙ (ap (λ (l : List ℕ).
            l ++ other.told) one.gains ∙ append_assoc before one.told other.told);
      })

  -- one more node is told
  pub node_next : (name before middle now : List ℕ) (nodes : List Node) (place : ℕ) (n : Node)
      → place < length nodes → n ≡ get_or nodes place n
      → TellsMoreLeaves o (leaves_from name 0 (take place nodes)) before middle
      → TellsMoreLeaves o (leaf_of name place n) middle now
      → TellsMoreLeaves o (leaves_from name 0 (take (place + 1) nodes)) before now
  node_next name before middle now nodes place n below read one other =
      more_next (leaves_from name 0 (take place nodes)) (leaf_of name place (get_or nodes place n))
      (leaves_from name 0 (take (place + 1) nodes)) before middle now
      (leaves_more name nodes place n below) one
      (subst (λ (m : Node). TellsMoreLeaves o (leaf_of name place m) middle now) read other)

  -- one more query is told
  pub query_next : (before middle now : List ℕ) (queries : List Tcq) (i : ℕ) (query : Tcq)
      → i < length queries → query ≡ get_or queries i query
      → TellsMoreLeaves o (leaves (take i queries)) before middle
      → TellsMoreLeaves o (leaves_of query) middle now
      → TellsMoreLeaves o (leaves (take (i + 1) queries)) before now
  query_next before middle now queries i query below read one other =
      more_next (leaves (take i queries)) (leaves_of (get_or queries i query))
      (leaves (take (i + 1) queries)) before middle now (queries_more queries i query below) one
      (subst (λ (q : Tcq). TellsMoreLeaves o (leaves_of q) middle now) read other)

-- a leaf of a query's table is a query within the limits
pub leaf_query : (vars : ℕ) (own nodes : List Node) (place : ℕ) (n : Node) (q : Cq) → nodes ≡ own
    → IsTcq vars own → place < length nodes → n ≡ get_or nodes place n → n ≡ node.Leaf q → IsQuery q
leaf_query vars own nodes place n q same valid below read is =
    let within : place < length own = omega (arith, below, ap length same) in
    let at : slice_get own place ≡ Some n =
    slice_get_read own (length own) place n refl within
    (read ∙ ap (λ (ns : List Node). get_or ns place n) same) in
    (valid.leaves place q (at ∙ ap Some is)).query

-- a large leaf among some is one among all
large_among : (e : Encoded) (front next rest whole : List NamedLeaf)
    → whole ≡ (front ++ next) ++ rest → HasLargeLeaf e next → HasLargeLeaf e whole
large_among e front next rest whole is large = record {
  leaf = large.leaf;
  there = subst (λ (ls : List NamedLeaf). Contains ls large.leaf) (sym is)
      (Contains-append_left (front ++ next) rest large.leaf
      (Contains-append_right front next large.leaf large.there));
  reaches = large.reaches;
}

pub node_large : (e : Encoded) (query : Tcq) (name : List ℕ) (nodes : List Node) (place : ℕ)
    (n : Node) → name ≡ query.name → nodes ≡ query.nodes → place < length nodes
    → n ≡ get_or nodes place n → HasLargeLeaf e (leaf_of name place n)
    → HasLargeLeaf e (leaves_of query)
node_large e query name nodes place n name_is nodes_is below read large =
    let same : leaves_from name 0 nodes ≡ leaves_of query =
    ap (λ (x : List ℕ). leaves_from x 0 nodes) name_is
    ∙ ap (leaves_from query.name 0) nodes_is in
    subst (HasLargeLeaf e) same
    (large_among e (leaves_from name 0 (take place nodes))
    (leaf_of name place (get_or nodes place n))
    (leaves_from name (0 + length (take (place + 1) nodes)) (drop (place + 1) nodes))
    (leaves_from name 0 nodes) (leaves_split name nodes place n below)
    (subst (λ (m : Node). HasLargeLeaf e (leaf_of name place m)) read large))

pub query_large : (e : Encoded) (queries : List Tcq) (i : ℕ) (query : Tcq) → i < length queries
    → query ≡ get_or queries i query → HasLargeLeaf e (leaves_of query)
    → HasLargeLeaf e (leaves queries)
query_large e queries i query below read large =
    large_among e (leaves (take i queries)) (leaves_of (get_or queries i query))
    (leaves (drop (i + 1) queries)) (leaves queries) (queries_split queries i query below)
    (subst (λ (q : Tcq). HasLargeLeaf e (leaves_of q)) read large)
