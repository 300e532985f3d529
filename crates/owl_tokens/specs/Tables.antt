-- Texts under other texts.
use Rattle.std.specs.Prelude.{ℕ, if◌then◌else◌, List, [], ◌∷◌, Option, Some, None}
use Rattle.std.specs.Str.{bytes_eq}

-- keys, each with its text
abbrev pub Table : Type 0
Table = List (List ℕ × List ℕ)

-- the text under the key
unfoldable pub looked_up : List ℕ → Table → Option (List ℕ)
looked_up key [] = None
looked_up key (entry ∷ rest) = if bytes_eq key entry.0 then Some entry.1 else looked_up key rest

-- the table with the text under the key, in place of the one that was there
unfoldable pub put : List ℕ → List ℕ → Table → Table
put key text [] = (key, text) ∷ []
put key text (entry ∷ rest) = if bytes_eq key entry.0 then (entry.0, text) ∷ rest else entry
    ∷ put key text rest
