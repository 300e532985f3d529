-- The terms of a document, as they are written: what tokens begin with, and the tokens behind it.
-- Where no term is written so, the place of the first token that isn't allowed, and none where the
-- text ends.
use Rattle.std.specs.Prelude.{ℕ, ◌+◌, ◌-◌, ◌==◌, Bool, true, false, if◌then◌else◌, List}
use Rattle.std.specs.Prelude.{[], ◌∷◌, Option, Some, None, Result, Ok, Err}
use Rattle.std.specs.List.{list_any}
use Rattle.owl_tokens.specs.declared.tokens.TokenKind.{TokenKind}
use Rattle.owl_tokens.specs.declared.tokens.TokenKind.TheVariants as kind
use Rattle.owl_tokens.specs.declared.words.Head.{Head}
use Rattle.owl_tokens.specs.declared.words.Head.TheVariants as head
use Rattle.owl_documents.specs.declared.groups.GroupStep.{GroupStep}
use Rattle.owl_documents.specs.declared.groups.GroupStep.TheVariants as step
use Rattle.owl_tokens.specs.Tokens.{Lexeme}
use Rattle.owl_tokens.specs.Tables.{Table}
use Rattle.owl_tokens.specs.Iris.{is_thing}
use Rattle.owl_tokens.specs.Words.{head_of}

-- what is read, or the place of the token at fault
abbrev pub Read : Type 0 → Type 0
Read X = Result X (Option ℕ)

infixl 10 ◌>>=◌
abbrev pub ◌>>=◌ : {A B : Type 0} → Read A → (A → Read B) → Read B
(Ok x) >>= f = f x
(Err e) >>= f = Err e

-- nothing is read, and the first token is at fault
abbrev pub stops_at : {X : Type 0} → List Lexeme → Read X
stops_at [] = Err None
stops_at (t ∷ rest) = Err (Some t.start)

abbrev pub is_open : TokenKind → Bool
is_open kind.Open = true
is_open _ = false

abbrev pub is_close : TokenKind → Bool
is_close kind.Close = true
is_close _ = false

abbrev pub is_equal : TokenKind → Bool
is_equal kind.Equal = true
is_equal _ = false

abbrev pub is_word : TokenKind → Bool
is_word kind.Word = true
is_word _ = false

-- the tokens behind an opening parenthesis
abbrev pub open_first : List Lexeme → Read (List Lexeme)
open_first [] = Err None
open_first (t ∷ rest) = if is_open t.kind then Ok rest else Err (Some t.start)

-- the place of a closing parenthesis, and the tokens behind it
abbrev pub close_first : List Lexeme → Read (ℕ × List Lexeme)
close_first [] = Err None
close_first (t ∷ rest) = if is_close t.kind then Ok (t.start, rest) else Err (Some t.start)

-- ---- groups in balanced parentheses

-- what a token in a group does, so many groups deep in it
abbrev pub group_step : ℕ → TokenKind → GroupStep
group_step depth kind.Open = step.Inside (depth + 1)
group_step depth kind.Close = if depth == 0 then step.Behind else step.Inside (depth - 1)
group_step depth kind.Fault = step.Fault
group_step depth _ = step.Inside depth

abbrev pub stepped : GroupStep → ℕ → List Lexeme → (ℕ → Read (List Lexeme)) → Read (List Lexeme)
stepped (step.Inside depth) place rest more = more depth
stepped step.Behind place rest more = Ok rest
stepped step.Fault place rest more = Err (Some place)

-- the tokens behind a group, from behind its opening parenthesis on, where so many groups are open
-- in it
unfoldable pub group_end : ℕ → List Lexeme → Read (List Lexeme)
group_end depth [] = Err None
group_end depth (t ∷ rest) = stepped (group_step depth t.kind) t.start rest (λ next.
    group_end next rest)

-- ---- what a term begins with

-- an entity, or a word that heads a group, and the tokens behind the entity or the opening
-- parenthesis
pub data First : Type 0 where
  entity : Lexeme → List Lexeme → First
  group : Head → Lexeme → List Lexeme → First

abbrev pub has_colon : List ℕ → Bool
has_colon text = list_any (λ b. b == 58) text

-- the tokens behind the opening parenthesis of a group, where a word heads one
abbrev pub group_of : List Lexeme → Option (List Lexeme)
group_of [] = None
group_of (t ∷ rest) = if is_open t.kind then Some rest else None

abbrev pub word_first : Lexeme → Option (List Lexeme) → List Lexeme → Read First
word_first t (Some inside) rest = Ok (group (head_of t.text) t inside)
word_first t None rest = if has_colon t.text then Ok (entity t rest) else Err (Some t.start)

abbrev pub kind_first : TokenKind → Lexeme → List Lexeme → Read First
kind_first kind.Iri t rest = Ok (entity t rest)
kind_first kind.Word t rest = word_first t (group_of rest) rest
kind_first _ t rest = Err (Some t.start)

unfoldable pub term_first : List Lexeme → Read First
term_first [] = Err None
term_first (t ∷ rest) = kind_first t.kind t rest

-- ---- what isn't taken

-- the tokens behind any term
abbrev pub term_end : First → Read (List Lexeme)
term_end (entity t rest) = Ok rest
term_end (group word t inside) = group_end 0 inside

-- the tokens behind any term but owl:Thing
abbrev pub filler_end : Table → First → Read (List Lexeme)
filler_end known (entity t rest) = if is_thing known t then Err (Some t.start) else Ok rest
filler_end known (group word t inside) = group_end 0 inside

-- the tokens behind a qualified expression, from behind `ObjectSomeValuesFrom(` on
unfoldable pub qualified_end : Table → List Lexeme → Read (List Lexeme)
qualified_end known inside = do
  role ← term_first inside
  behind ← term_end role
  filler ← term_first behind
  rest ← filler_end known filler
  end ← close_first rest
  Ok end.1

-- the tokens behind a group that isn't taken where it stands: one that no word of the profile
-- heads, or a qualified expression
abbrev pub refused_end : Table → Head → Lexeme → List Lexeme → Read (List Lexeme)
refused_end known head.Other t inside = group_end 0 inside
refused_end known head.ObjectSomeValuesFrom t inside = qualified_end known inside
refused_end known _ t inside = Err (Some t.start)

-- ---- entities, roles and classes

-- an entity, or the token of what stands in its place and isn't taken
pub data Entity : Type 0 where
  named : Lexeme → Entity
  refused : Lexeme → Entity

-- a role or its inverse
pub record Role : Type 0 where
  pub entity : Entity
  pub inverse : Bool

-- a class expression; those that may not stand everywhere have the token that would be at fault
pub data Class : Type 0 where
  everything : Lexeme → Class
  only : Entity → Class
  some_of : Role → Class
  some_in : Lexeme → Role → Entity → Class

abbrev pub entity_from : Table → First → Read (Entity × List Lexeme)
entity_from known (entity t rest) = Ok (if is_thing known t then refused t else named t, rest)
entity_from known (group word t inside) = do
  rest ← refused_end known word t inside
  Ok (refused t, rest)

unfoldable pub entity_first : Table → List Lexeme → Read (Entity × List Lexeme)
entity_first known tokens = do
  first ← term_first tokens
  entity_from known first

-- `ObjectInverseOf` behind its opening parenthesis
abbrev pub inverse_from : Table → List Lexeme → Read (Role × List Lexeme)
inverse_from known inside = do
  e ← entity_first known inside
  end ← close_first e.1
  Ok (record { entity = e.0; inverse = true }, end.1)

abbrev pub plain_role : Table → First → Read (Role × List Lexeme)
plain_role known first = do
  e ← entity_from known first
  Ok (record { entity = e.0; inverse = false }, e.1)

abbrev pub role_from : Table → First → Read (Role × List Lexeme)
role_from known (group head.ObjectInverseOf t inside) = inverse_from known inside
role_from known first = plain_role known first

unfoldable pub role_first : Table → List Lexeme → Read (Role × List Lexeme)
role_first known tokens = do
  first ← term_first tokens
  role_from known first

-- a class, or owl:Thing
abbrev pub filler_from : Table → First → Read (Option Entity × List Lexeme)
filler_from known (entity t rest) = Ok (if is_thing known t then None else Some (named t), rest)
filler_from known (group word t inside) = do
  rest ← refused_end known word t inside
  Ok (Some (refused t), rest)

unfoldable pub filler_first : Table → List Lexeme → Read (Option Entity × List Lexeme)
filler_first known tokens = do
  first ← term_first tokens
  filler_from known first

abbrev pub existing : Lexeme → Role → Option Entity → Class
existing t role None = some_of role
existing t role (Some filler) = some_in t role filler

-- `ObjectSomeValuesFrom` behind its opening parenthesis
abbrev pub existing_from : Table → Lexeme → List Lexeme → Read (Class × List Lexeme)
existing_from known t inside = do
  role ← role_first known inside
  filler ← filler_first known role.1
  end ← close_first filler.1
  Ok (existing t role.0 filler.0, end.1)

abbrev pub plain_class : Table → First → Read (Class × List Lexeme)
plain_class known (entity t rest) =
    Ok (if is_thing known t then everything t else only (named t), rest)
plain_class known (group word t inside) = do
  rest ← refused_end known word t inside
  Ok (only (refused t), rest)

abbrev pub class_from : Table → First → Read (Class × List Lexeme)
class_from known (group head.ObjectSomeValuesFrom t inside) = existing_from known t inside
class_from known first = plain_class known first

-- a class expression where owl:Thing and qualified ones are taken
unfoldable pub class_first : Table → List Lexeme → Read (Class × List Lexeme)
class_first known tokens = do
  first ← term_first tokens
  class_from known first

abbrev pub narrowed : Class → Class
narrowed (everything t) = only (refused t)
narrowed (some_in t role filler) = only (refused t)
narrowed class = class

-- a class expression where they aren't
unfoldable pub basic_first : Table → List Lexeme → Read (Class × List Lexeme)
basic_first known tokens = do
  class ← class_first known tokens
  Ok (narrowed class.0, class.1)
