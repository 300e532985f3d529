-- What a known fact serves for on the way back.
use Rattle.std.specs.Prelude.{◌≡◌, ℕ, List, [], ◌∷◌, ◌++◌}
use Rattle.std.specs.List.{Contains}
use Rattle.dl_syntax.specs.declared.facts.Element.{Element}
use Rattle.dl_syntax.specs.declared.facts.Fact.{Fact}
use Rattle.dl_syntax.specs.declared.ontology.Inclusion.{Inclusion}
use Rattle.dl_syntax.specs.declared.queries.Cq.{Cq}
use Rattle.dl_syntax.specs.Chase.{made_by}
use Rattle.query_unify.specs.Laws.{Gives}

-- the inclusion makes the second fact of the first one, which is known, and with it the query gives
-- the elements; a null has the number
pub record ServesBy (facts : List Fact) (null : ℕ) (elements : List Element) (i : Inclusion)
    (q : Cq)
    (f g : Fact) : Type 0 where
  pub there : Contains facts f
  pub makes : made_by i f null ≡ g ∷ []
  pub gives : Gives q (facts ++ g ∷ []) elements

-- some fact does
abbrev pub Serves : List Fact → ℕ → List Element → Inclusion → Cq → Type 0
Serves facts null elements i q = (f g : Fact) × ServesBy facts null elements i q f g
