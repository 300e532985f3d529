-- What one snapshot makes of what is kept of queries.
use Rattle.std.specs.Prelude.{◌≡◌, ◌↔◌, ℕ, ◌+◌, ◌-◌, ◌^◌, min, List, [], ◌∷◌, length}
use Rattle.std.specs.List.{Contains}
use Rattle.dl_syntax.specs.declared.facts.Fact.{Fact}
use Rattle.dl_syntax.specs.Ontology.{Declared}
use Rattle.dl_syntax.specs.Rows.{Relation}
use Rattle.tcq_syntax.specs.Tcq.{Tcq}
use Rattle.tcq_syntax.specs.Histories.{History, with_snapshot}
use Rattle.dl_syntax.specs.Encode.{IsOverOntology}
use Rattle.dl_syntax.specs.Saturation.{IsSaturated}
use Rattle.saturate.specs.declared.sight.Sight.{Sight}
use Rattle.saturate.specs.Sight.{Seen}
use Rattle.progression.specs.declared.kept.Kept.{Kept}
use Rattle.progression.specs.Kept.{Fits, StandsFor, AreRows, AreSlotAnswers}

-- one more, as far as is counted
abbrev pub one_more : ℕ → ℕ
one_more count = min (count + 1) (2 ^ 64 - 1)

-- exactly the facts over individuals that some run of the snapshot has and whose predicates are
-- looked at
abbrev pub AreSeen : Declared → Sight → List Fact → List Fact → Type 0
AreSeen ontology sight snapshot facts = (whole : List Fact) × IsSaturated ontology snapshot whole
    × ((f : Fact) → Contains facts f ↔ Seen sight (Contains whole) f)

-- what is kept of a query over so many slots after one more snapshot, from which these facts follow
-- as far as is looked, and the answers then
pub record Advances (ontology : Declared) (slots : ℕ) (sight : Sight) (query : Tcq)
    (facts : List Fact) (old new : Kept) (relation : Relation) : Type 0 where
  pub fits : Fits query slots new
  pub counted : new.count ≡ one_more old.count
  pub rows : AreRows query (length ontology.individuals) relation
  pub stands : (history : History) (snapshot : List Fact) → IsOverOntology ontology snapshot
      → AreSeen ontology sight snapshot facts →
      StandsFor ontology.inclusions slots history query old →
      StandsFor ontology.inclusions slots (with_snapshot snapshot history) query new
      × AreSlotAnswers ontology.inclusions (length ontology.individuals) query
      (with_snapshot snapshot history) relation.rows

-- that of each query
abbrev pub AllAdvance : Declared → ℕ → Sight → List Tcq → List Fact → List Kept → List Kept
    → List Relation → Type 0
AllAdvance ontology slots sight [] facts [] [] [] = Unit {0}
AllAdvance ontology slots sight (query ∷ queries) facts (old ∷ olds) (new ∷ news) (relation
    ∷ relations) =
    Advances ontology slots sight query facts old new relation
    × AllAdvance ontology slots sight queries facts olds news relations
AllAdvance ontology slots sight _ facts _ _ _ = ⊥
