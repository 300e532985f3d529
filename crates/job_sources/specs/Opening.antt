-- What the files have.
use Rattle.std.specs.Prelude.{◌≡◌, ℕ, List, Option, None, Some}
use Rattle.edge_io.specs.Held.{Store}

-- the file of this name has this text, where the files are told
abbrev pub HasText : Option Store → List ℕ → List ℕ → Type 0
HasText None name text = Unit {0}
HasText (Some files) name text = files name ≡ Some text

-- the text is this one
abbrev pub Is : List ℕ → List ℕ → Type 0
Is wanted text = text ≡ wanted
