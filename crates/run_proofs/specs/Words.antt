-- Words one behind the other.
use Rattle.std.specs.Prelude.{◌≡◌, ◌≢◌, [], ◌∷◌, ◌++◌}
use Rattle.std.specs.List.{All}
use Rattle.run_proofs.specs.Texts.{Text}

-- no space
abbrev pub IsFree : Text → Type 0
IsFree word = All (λ b. b ≢ 32) word

-- a word before this text ends where the text begins
abbrev pub EndsWord : Text → Type 0
EndsWord [] = Unit {0}
EndsWord (b ∷ rest) = b ≡ 32

-- a word behind a space, and the text behind it
pub record IsCut (text word rest : Text) : Type 0 where
  pub whole : text ≡ 32 ∷ word ++ rest
  pub free : IsFree word
  pub ends : EndsWord rest

-- no such word is there
abbrev pub IsNoWord : Text → Type 0
IsNoWord text = (rest : Text) → text ≡ 32 ∷ rest → ⊥

-- the text begins with the text of one of these behind a space, and goes on so
pub record Begins {X : Type 0} (text_of : X → Text) (Fits : X → Type 0) (text : Text) (x : X)
    (rest : Text) : Type 0 where
  pub fits : Fits x
  pub whole : text ≡ 32 ∷ text_of x ++ rest
  pub ends : EndsWord rest

-- the text begins with none of them
abbrev pub BeginsNone : {X : Type 0} → (X → Text) → (X → Type 0) → Text → Type 0
BeginsNone {X} text_of Fits text = (x : X) (rest : Text) → Begins text_of Fits text x rest → ⊥
