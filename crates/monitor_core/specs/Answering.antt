-- The answers of several queries.
use Rattle.std.specs.Prelude.{◌≡◌, ℕ, ◌-◌, ◌<◌, List, [], ◌∷◌, length}
use Rattle.std.specs.List.{All}
use Rattle.dl_syntax.specs.declared.facts.Element.{Element}
use Rattle.dl_syntax.specs.declared.facts.Element.TheVariants.{Ind, Null}
use Rattle.dl_syntax.specs.declared.facts.Fact.{Fact}
use Rattle.dl_syntax.specs.declared.facts.Fact.TheVariants as fact
use Rattle.dl_syntax.specs.Ontology.{Declared}
use Rattle.dl_syntax.specs.Rows.{Relation}
use Rattle.tcq_syntax.specs.Answers.{IsRow, AreAnswers}
use Rattle.tcq_syntax.specs.Histories.{History}
use Rattle.tcq_syntax.specs.Tcq.{Tcq}

-- the element is an individual that the ontology declares
abbrev pub IsOverElement : Declared → Element → Type 0
IsOverElement ontology (Ind i) = i.0 < length ontology.individuals
IsOverElement ontology (Null n) = ⊥

-- the fact's predicate and its elements are declared
abbrev pub IsOver : Declared → Fact → Type 0
IsOver ontology (fact.Concept c e) = (c.0 < length ontology.concepts) × IsOverElement ontology e
IsOver ontology (fact.Role p e e') = (p.0 < length ontology.roles) × IsOverElement ontology e
    × IsOverElement ontology e'

abbrev pub AreOver : Declared → List Fact → Type 0
AreOver ontology facts = All (IsOver ontology) facts

-- for each query a relation over its answer variables and the declared individuals
abbrev pub AreRowsOf : Declared → List Tcq → List Relation → Type 0
AreRowsOf ontology [] [] = Unit {0}
AreRowsOf ontology [] (relation ∷ relations) = ⊥
AreRowsOf ontology (query ∷ queries) [] = ⊥
AreRowsOf ontology (query ∷ queries) (relation ∷ relations) =
    (relation.arity ≡ query.vars)
    × All (IsRow (length ontology.individuals) query.vars) relation.rows
    × AreRowsOf ontology queries relations

-- how many individuals there are without those that came with the history
abbrev pub own_count : Declared → History → ℕ
own_count ontology history = length ontology.individuals - length history.names

-- for each query its answers after the history, whose names the ontology has
abbrev pub AreAllAnswers : Declared → List Tcq → History → List Relation → Type 0
AreAllAnswers ontology [] history [] = Unit {0}
AreAllAnswers ontology [] history (relation ∷ relations) = ⊥
AreAllAnswers ontology (query ∷ queries) history [] = ⊥
AreAllAnswers ontology (query ∷ queries) history (relation ∷ relations) =
    AreAnswers ontology.inclusions (own_count ontology history) query history relation.rows
    × AreAllAnswers ontology queries history relations
