-- How many numbers a tuple may have.
use Rattle.std.specs.Prelude.{ℕ, ◌+◌, Option, Some, None, List, length}

-- beside those of the ontology's individuals: those of the names that came, and of a stranger
abbrev pub more_slots : Option (List (List ℕ)) → ℕ
more_slots None = 0
more_slots (Some names) = length names + 1
