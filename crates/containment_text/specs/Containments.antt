-- Which queries are contained in which others, and what is told of it.
use Rattle.std.specs.Prelude.{◌≡◌, ◌≢◌, ◌==◌, nat_lt, ℕ, ◌+◌, ◌-◌, List, [], ◌∷◌, ◌++◌, codes}
use Rattle.std.specs.Prelude.{decimal, flat_map, if◌then◌else◌, length, Option, None, Some, Vec}
use Rattle.std.specs.Global.{Global}
use Rattle.std.specs.List.{AllZip}
use Rattle.short_names.specs.Names.{name_in}
use Rattle.dl_syntax.specs.declared.names.IndId.{IndId}
use Rattle.dl_syntax.specs.declared.facts.Element.{Element}
use Rattle.dl_syntax.specs.declared.facts.Element.TheVariants.{Ind, Null}
use Rattle.dl_syntax.specs.declared.facts.Fact.{Fact}
use Rattle.dl_syntax.specs.declared.facts.Fact.TheVariants.{Concept, Role}
use Rattle.dl_syntax.specs.declared.queries.Cq.{Cq}
use Rattle.dl_syntax.specs.Ontology.{Declared}
use Rattle.tcq_syntax.specs.declared.nodes.Node.{Node}
use Rattle.tcq_syntax.specs.declared.nodes.Node.TheVariants as node
use Rattle.tcq_syntax.specs.Tcq.{Tcq}
use Rattle.perfect_ref.specs.Plain.{Encoded, Lists, PlainReachable}
use Rattle.report_text.specs.Names.{name_text}
use Rattle.contain_test.specs.declared.deciding.Containment.{Containment}
use Rattle.contain_test.specs.declared.deciding.Containment.TheVariants.{Yes, No}
use Rattle.contain_test.specs.Contained.{IsExact}
use Rattle.monitor_core.specs.Setting.{Setting}
use Rattle.job_sources.specs.declared.refusal.Refusal.{Refusal}
use Rattle.job_sources.specs.declared.refusal.Refusal.TheVariants.{NotALeaf}

-- ---- which queries are compared

-- the conjunctive query that a formula is, where its root is a leaf: a tree whose root is a leaf
-- has no other node
abbrev pub root_leaf : List Node → Option Cq
root_leaf (node.Leaf q ∷ []) = Some q
root_leaf _ = None

-- it, where it names all of so many answer variables: its head has those that it names, each once
abbrev pub naming_all : ℕ → Option Cq → Option Cq
naming_all vars None = None
naming_all vars (Some q) = if length q.head == vars then Some q else None

-- the conjunctive query that a query is, if its root is a leaf that names all its answer variables
abbrev pub leaf_query : Tcq → Option Cq
leaf_query query = naming_all query.vars (root_leaf query.nodes)

-- the name of the first query that is none, if there is one
abbrev pub first_unless : List ℕ → Option Cq → Option (List ℕ) → Option (List ℕ)
first_unless name None later = Some name
first_unless name (Some q) later = later

abbrev pub first_no_leaf : List Tcq → Option (List ℕ)
first_no_leaf [] = None
first_no_leaf (query ∷ queries) = first_unless query.name (leaf_query query) (first_no_leaf queries)

-- a test of containment refuses the first query that is no such leaf
abbrev pub refuses_no_leaf : Setting → Refusal → Type 0
refuses_no_leaf setting (NotALeaf name) = first_no_leaf setting.queries ≡ Some (name_in name)
refuses_no_leaf setting _ = ⊥

-- two queries by their names, and what they ask
pub record Pair : Type 0 where
  pub first_name : List ℕ
  pub first : Cq
  pub second_name : List ℕ
  pub second : Cq

-- the pair of two queries, where they have as many answer variables
abbrev pub pair_asked : List ℕ → List ℕ → Option Cq → Option Cq → List Pair
pair_asked name other (Some q) (Some r) =
    if length q.head == length r.head
    then record { first_name = name; first = q; second_name = other; second = r } ∷ [] else []
pair_asked name other _ _ = []

abbrev pub pair_of : Tcq → Tcq → List Pair
pair_of query other = pair_asked query.name other.name (leaf_query query) (leaf_query other)

-- the pairs of the query at a place with the queries from another place on, but itself
abbrev pub pairs_with : ℕ → Tcq → ℕ → List Tcq → List Pair
pairs_with place query from [] = []
pairs_with place query from (other ∷ others) =
    (if place == from then [] else pair_of query other) ++ pairs_with place query (from + 1) others

-- the pairs of the queries from a place on with all
abbrev pub pairs_from : List Tcq → ℕ → List Tcq → List Pair
pairs_from all place [] = []
pairs_from all place (query ∷ queries) =
    pairs_with place query 0 all ++ pairs_from all (place + 1) queries

-- the ordered pairs of queries at different places, by the first and then by the second
abbrev pub pairs : List Tcq → List Pair
pairs queries = pairs_from queries 0 queries

-- ---- what is told

-- a declared individual is told by its name, and the nth variable of a frozen query, the individual
-- n places after the declared ones, by an asterisk and n
abbrev pub individual_text : Declared → IndId → List ℕ
individual_text ontology i =
    if nat_lt i.0 (length ontology.individuals) then name_text ontology.individuals i.0
    else codes "*" ++ decimal (i.0 - length ontology.individuals)

-- a frozen query has no null
abbrev pub element_text : Declared → Element → List ℕ
element_text ontology (Ind i) = individual_text ontology i
element_text ontology (Null number) = []

abbrev pub fact_text : Declared → Fact → List ℕ
fact_text ontology (Concept concept x) =
    name_text ontology.concepts concept.0 ++ codes "(" ++ element_text ontology x ++ codes ")"
fact_text ontology (Role role x y) =
    name_text ontology.roles role.0 ++ codes "("
    ++ (element_text ontology x ++ codes "," ++ element_text ontology y) ++ codes ")"

-- yes, or no with the facts and the row, each after a space
abbrev pub verdict_text : Declared → Containment → List ℕ
verdict_text ontology Yes = codes " yes"
verdict_text ontology (No facts row) =
    codes " no snap" ++ flat_map (λ f. codes " " ++ fact_text ontology f) facts
    ++ codes " row" ++ flat_map (λ i. codes " " ++ individual_text ontology i) row

-- the line of a pair
abbrev pub pair_line : Declared → List ℕ → List ℕ → Containment → List ℕ
pair_line ontology first second c =
    codes "contain " ++ first ++ codes " " ++ second ++ verdict_text ontology c ++ codes "\n"

-- whether the first of a pair is contained in the second, and what shows it where not
pub record TellsPair (ontology : Declared) (pair : Pair) (told : List ℕ) : Type 0 where
  pub containment : Containment
  pub exact : IsExact ontology pair.first pair.second containment
  pub is : told ≡ pair_line ontology pair.first_name pair.second_name containment

-- so for each pair in their order
abbrev pub TellsPairs : Declared → List Pair → List ℕ → Type 0
TellsPairs ontology [] told = told ≡ []
TellsPairs ontology (pair ∷ pairs) told =
    (first rest : List ℕ)
    × TellsPair ontology pair first
    × TellsPairs ontology pairs rest
    × (told ≡ first ++ rest)

-- the text of all containments
abbrev pub IsContainment : Setting → List ℕ → Type 0
IsContainment setting text = TellsPairs setting.ontology (pairs setting.queries) text

-- the containments of the same queries are one text
abbrev pub OneContainment : Type 0
OneContainment = (setting : Setting) (one other : List ℕ) → IsContainment setting one
    → IsContainment setting other → one ≡ other

-- ---- parts

-- a text gained what is told of pairs
pub record TellsMorePairs (ontology : Declared) (pairs : List Pair) (before now : List ℕ) : Type 0
  where
    pub told : List ℕ
    pub tells : TellsPairs ontology pairs told
    pub gains : now ≡ before ++ told

-- the query is a leaf that names all its answer variables
abbrev pub IsLeafQuery : Tcq → Type 0
IsLeafQuery query = leaf_query query ≢ None

-- the union is the rewriting of the query's leaf
abbrev pub IsUnionOf : Encoded → Tcq → Vec Cq Global → Type 0
IsUnionOf e query union = (q : Cq) → leaf_query query ≡ Some q
    → Lists (PlainReachable e q) union.items

-- the unions are the rewritings of the queries, one for each
abbrev pub AreUnionsOf : Encoded → List Tcq → List (Vec Cq Global) → Type 0
AreUnionsOf e queries unions = AllZip (IsUnionOf e) queries unions
