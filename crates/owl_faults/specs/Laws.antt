-- Laws of the faults of documents.
use Rattle.std.specs.Prelude.{◌≡◌, ◌↔◌, ◌≤◌, ℕ, List, length, Option, Err}
use Rattle.owl_tokens.specs.Tokens.{Lexeme, lexed}
use Rattle.owl_documents.specs.Documents.{document_read}
use Rattle.owl_reader.specs.Reading.{bad_owl, too_many, text_says, stop_line, most_bytes}
use Rattle.owl_faults.specs.Fronts.{FirstRefused}
use Rattle.owl_faults.specs.Limits.{HasTooMany, StandsForTooMany}

-- the reading stops exactly at the first token that no document goes on with, or where the tokens
-- end before they are one
abbrev pub StopsWhereRefused : Type 0
StopsWhereRefused = (tokens : List Lexeme) (stop : Option ℕ)
    → (document_read tokens ≡ Err stop) ↔ FirstRefused tokens stop

-- there is one such place at most
abbrev pub StopsOnce : Type 0
StopsOnce = (tokens : List Lexeme) (stop other : Option ℕ) → FirstRefused tokens stop
    → FirstRefused tokens other → stop ≡ other

-- the tokens of a text that isn't too long stop being a document on this line
pub record IsNoDocument (text : List ℕ) (line : ℕ) : Type 0 where
  pub short : length text ≤ most_bytes
  pub stop : Option ℕ
  pub stops : FirstRefused (lexed 0 0 text) stop
  pub is_line : line ≡ stop_line text stop

-- a text is at fault for its grammar exactly on the line of the first token that no document goes
-- on with, or on its last
abbrev pub FaultOfGrammar : Type 0
FaultOfGrammar = (text : List ℕ) (line : ℕ)
    → (text_says text ≡ Err (line, bad_owl)) ↔ IsNoDocument text line

-- a text says too many of something exactly on the line of the closing parenthesis of an item whose
-- statements pass a limit, with nothing at fault before
abbrev pub FaultOfLimits : Type 0
FaultOfLimits = (text : List ℕ) (line : ℕ)
    → (text_says text ≡ Err (line, too_many)) ↔ HasTooMany text line

-- where a text says too many of something, it stands for statements of which those of one item pass
-- a limit
abbrev pub LimitsAlone : Type 0
LimitsAlone = (text : List ℕ) (line : ℕ) → text_says text ≡ Err (line, too_many)
    → StandsForTooMany text line
