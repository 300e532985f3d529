-- What isn't taken, in the order in which it is written.
use Rattle.std.specs.Prelude.{List, [], ◌∷◌, Option, Some, None}
use Rattle.owl_tokens.specs.Tokens.{Lexeme}
use Rattle.owl_documents.specs.Terms.{Entity, named, refused, Role, Class, everything, only}
use Rattle.owl_documents.specs.Terms.{some_of}
use Rattle.owl_documents.specs.Terms.{some_in}
use Rattle.owl_documents.specs.Items.{Axiom, Item, silent, not_taken, declares, states}

-- the first where there is one, and the second otherwise
abbrev pub or_else : Option Lexeme → Option Lexeme → Option Lexeme
or_else (Some t) later = Some t
or_else None later = later

-- the first of what isn't taken in each
unfoldable pub first_of : {X : Type 0} → (X → Option Lexeme) → List X → Option Lexeme
first_of refusal [] = None
first_of refusal (x ∷ xs) = or_else (refusal x) (first_of refusal xs)

abbrev pub in_entity : Entity → Option Lexeme
in_entity (named t) = None
in_entity (refused t) = Some t

abbrev pub in_role : Role → Option Lexeme
in_role r = in_entity r.entity

abbrev pub in_class : Class → Option Lexeme
in_class (everything t) = None
in_class (only e) = in_entity e
in_class (some_of r) = in_role r
in_class (some_in t r e) = or_else (in_role r) (in_entity e)

abbrev pub in_axiom : Axiom → Option Lexeme
in_axiom a = or_else (first_of in_role a.roles) (first_of in_class a.classes)

abbrev pub in_item : Item → Option Lexeme
in_item silent = None
in_item (not_taken t) = Some t
in_item (declares kind e close) = in_entity e
in_item (states a) = in_axiom a

-- the first token that isn't taken
unfoldable pub first_refused : List Item → Option Lexeme
first_refused items = first_of in_item items
