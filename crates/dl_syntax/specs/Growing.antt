-- One step of a run, told by places: an earlier fact by its place, counted from 0, and an inclusion
-- by its number, counted from 1.
use Rattle.std.specs.Prelude.{ℕ, zero, suc, Option, Some, None, List, [], ◌∷◌, length, slice_get}
use Rattle.dl_syntax.specs.declared.facts.Fact.{Fact}
use Rattle.dl_syntax.specs.declared.ontology.Inclusion.{Inclusion}
use Rattle.dl_syntax.specs.Chase.{made_by}
use Rattle.dl_syntax.specs.declared.growing.Made.{Made}
use Rattle.dl_syntax.specs.declared.growing.Made.TheVariants.{Nothing, One, Two}

-- the inclusion of the number, from 1, and none at 0 and past the last one
abbrev pub inclusion_of : List Inclusion → ℕ → Option Inclusion
inclusion_of inclusions zero = None
inclusion_of inclusions (suc place) = slice_get inclusions place

-- what the inclusion makes of the fact where there are both, and else nothing
abbrev pub made_of_both : Option Inclusion → Option Fact → ℕ → List Fact
made_of_both (Some i) (Some f) place = made_by i f place
made_of_both _ _ place = []

-- what the inclusion of the number makes of the fact at the place of the run: nothing where it
-- doesn't apply, or where there is no such place or inclusion
abbrev pub made_at : List Inclusion → List Fact → ℕ → ℕ → List Fact
made_at inclusions run from inclusion =
    made_of_both (inclusion_of inclusions inclusion) (slice_get run from) (length run)

-- the facts that a step makes
abbrev pub facts_of : Made → List Fact
facts_of Nothing = []
facts_of (One f) = f ∷ []
facts_of (Two f g) = f ∷ g ∷ []
