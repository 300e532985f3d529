-- The core of a rewriting, asked of a saturated snapshot.
use Rattle.std.specs.Prelude.{◌≡◌, ℕ, List, ◌↔◌, map}
use Rattle.std.specs.List.{All, Contains}
use Rattle.dl_syntax.specs.declared.names.IndId.{IndId}
use Rattle.dl_syntax.specs.declared.facts.Element.{Element}
use Rattle.dl_syntax.specs.declared.facts.Element.TheVariants.{Ind as ind_element}
use Rattle.dl_syntax.specs.declared.facts.Fact.{Fact}
use Rattle.dl_syntax.specs.declared.ontology.Inclusion.{Inclusion}
use Rattle.dl_syntax.specs.declared.queries.Cq.{Cq}
use Rattle.dl_syntax.specs.Match.{Certain}
use Rattle.dl_syntax.specs.Facts.{HasNoNull}
use Rattle.dl_syntax.specs.Encode.{IsUnqualified}
use Rattle.dl_syntax.specs.Saturation.{IsSaturation, MakesNulls, IsClosed}
use Rattle.query_unify.specs.Normal.{normalise}
use Rattle.query_unify.specs.Reach.{Replaces, Reduces, Reach}
use Rattle.query_unify.specs.Laws.{Gives}

-- what the result of a replacement by an inclusion that makes no nulls gives in closed facts, the
-- query before gives there
abbrev pub ReplaceGoesBack : Type 0
ReplaceGoesBack =
    (inclusions : List Inclusion) (facts : List Fact) (i : Inclusion) (place : ℕ) (q q' : Cq)
    (elements : List Element) → IsClosed inclusions facts → Contains inclusions i → (¬ MakesNulls i)
    →
    Replaces i place q q' → Gives q' facts elements → Gives q facts elements

-- what a reduced query gives in any facts, the query before gives there
abbrev pub ReduceGoesBack : Type 0
ReduceGoesBack =
    (facts : List Fact) (j k : ℕ) (q q' : Cq) (elements : List Element) →
    Reduces j k q q' → Gives q' facts elements → Gives q facts elements

-- the normalised query, or what a replacement by an inclusion that makes nulls makes of a reachable
-- one
pub data IsCore (inclusions : List Inclusion) (q member : Cq) : Type 0 where
  begin : member ≡ normalise q → IsCore inclusions q member
  made : (before : Cq) (i : Inclusion) (place : ℕ) → Reach inclusions q before
      → Contains inclusions i
      → MakesNulls i → Replaces i place before member → IsCore inclusions q member

-- the certain answers are what the core gives in the saturated facts
abbrev pub CoreIsExact : Type 0
CoreIsExact =
    (inclusions : List Inclusion) (snapshot facts : List Fact) (q : Cq) (row : List IndId) →
    All IsUnqualified inclusions → All HasNoNull snapshot → IsSaturation inclusions snapshot facts →
    Certain inclusions q snapshot row
    ↔ ((member : Cq) × IsCore inclusions q member × Gives member facts (map ind_element row))
