-- The rows of each leaf that match in a model, and how they are told.
use Rattle.std.specs.Prelude.{◌≡◌, ◌↔◌, ℕ, ◌+◌, List, [], ◌∷◌, ◌++◌, length}
use Rattle.std.specs.Prelude.{Vec, Bool, true, false}
use Rattle.std.specs.Global.{Global}
use Rattle.std.specs.List.{All, Contains}
use Rattle.dl_syntax.specs.declared.names.IndId.{IndId}
use Rattle.dl_syntax.specs.declared.facts.Fact.{Fact}
use Rattle.dl_syntax.specs.declared.queries.Cq.{Cq}
use Rattle.dl_syntax.specs.Ontology.{Declared}
use Rattle.dl_syntax.specs.Rows.{Relation, IsRising}
use Rattle.tcq_syntax.specs.declared.nodes.Node.{Node}
use Rattle.tcq_syntax.specs.declared.nodes.Node.TheVariants as node
use Rattle.tcq_syntax.specs.Tcq.{Tcq}
use Rattle.ucq_join.specs.Answers.{IsAnswer}
use Rattle.model_audit.specs.Rows.{IsDeclared}
use Rattle.report_text.specs.Names.{Text, AreNamed}
use Rattle.audit_report.specs.Lines.{leaf_text}

-- the rows of so many declared individuals with a match in the facts, in rising order
pub record AreLeafRows (facts : List Fact) (count : ℕ) (q : Cq) (rows : List (List IndId)) : Type 0
  where
    pub rising : IsRising rows
    pub member : (row : List IndId) → Contains rows row
        ↔ (IsAnswer facts q row × All (IsDeclared count) row)

-- the rows of each leaf among nodes, of which the first has this place in the query of this name
abbrev pub TellsNodes : Declared → List Fact → Text → ℕ → List Node → Text → Type 0
TellsNodes o facts name place [] told = told ≡ []
TellsNodes o facts name place (node.Leaf q ∷ nodes) told =
    (rows : List (List IndId)) × (rest : Text)
    × AreLeafRows facts (length o.individuals) q rows
    × TellsNodes o facts name (place + 1) nodes rest
    × (told ≡ leaf_text o.individuals name place rows ++ rest)
TellsNodes o facts name place (_ ∷ nodes) told = TellsNodes o facts name (place + 1) nodes told

-- the rows of each leaf of each query
abbrev pub TellsQueries : Declared → List Fact → List Tcq → Text → Type 0
TellsQueries o facts [] told = told ≡ []
TellsQueries o facts (query ∷ queries) told =
    (first rest : Text)
    × TellsNodes o facts query.name 0 query.nodes first
    × TellsQueries o facts queries rest
    × (told ≡ first ++ rest)

-- whether the node asks a conjunctive query
abbrev pub is_leaf : Node → Bool
is_leaf (node.Leaf q) = true
is_leaf _ = false

-- a text gained them
pub record TellsMoreNodes (o : Declared) (facts : List Fact) (name : Text) (place : ℕ)
    (nodes : List Node) (before now : Text) : Type 0 where
  pub told : Text
  pub tells : TellsNodes o facts name place nodes told
  pub gains : now ≡ before ++ told

pub record TellsMoreQueries (o : Declared) (facts : List Fact) (queries : List Tcq)
    (before now : Text) : Type 0 where
  pub told : Text
  pub tells : TellsQueries o facts queries told
  pub gains : now ≡ before ++ told

-- the rows of each of these relations are of individuals that have names
abbrev pub AreAllNamed : Declared → Vec Relation Global → Type 0
AreAllNamed o each = All (λ relation. AreNamed o relation.rows) each.items
