-- The assignment that a list of elements gives to a list of variables.
use Rattle.std.specs.Prelude.{◌==◌, ℕ, if◌then◌else◌, List, ◌∷◌}
use Rattle.dl_syntax.specs.declared.facts.Element.{Element}
use Rattle.dl_syntax.specs.declared.facts.Element.TheVariants.{Ind as ind_element}
use Rattle.dl_syntax.specs.Match.{Assignment}

-- each variable of the list goes to its element, and any other to the first individual
abbrev pub assigned : List ℕ → List Element → Assignment
assigned (w ∷ variables) (e ∷ elements) v = if w == v then e else assigned variables elements v
assigned _ _ v = ind_element (record { 0 = 0 })
