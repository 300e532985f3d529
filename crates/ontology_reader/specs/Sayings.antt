-- What a line of an ontology says.
use Rattle.std.specs.Prelude.{ℕ, Bool, true, false, ◌∷◌, [], List, Option, Some, None, codes}
use Rattle.std.specs.Prelude.{if◌then◌else◌}
use Rattle.std.specs.Option.{option_map, option_map_or}
use Rattle.std.specs.Str.{bytes_eq}
use Rattle.text_scan.specs.declared.TokenKind.{TokenKind}
use Rattle.text_scan.specs.declared.TokenKind.TheVariants as token
use Rattle.text_scan.specs.Lexing.{Lexeme, Lexed, lexed}
use Rattle.dl_syntax.specs.declared.names.Kind.{Kind}
use Rattle.dl_syntax.specs.declared.names.Kind.TheVariants.{Concept, Role, Individual}

-- `some` and `inv` stand for no name
pub data Word : Type 0 where
  some : Word
  inv : Word
  name : List ℕ → Word

abbrev pub word_of : List ℕ → Word
word_of text = if bytes_eq text (codes "some") then some else if bytes_eq text (codes "inv")
    then inv else name text

-- a role or its inverse, by the role's name
pub record RoleTerm : Type 0 where
  pub role : List ℕ
  pub inverse : Bool

-- a concept, or what stands first in some pair of a role
pub data BasicTerm : Type 0 where
  concept : List ℕ → BasicTerm
  existing : RoleTerm → BasicTerm

pub data Saying : Type 0 where
  nothing : Saying
  declares : Kind → List ℕ → Saying
  includes : BasicTerm → BasicTerm → Saying
  includes_qualified : BasicTerm → RoleTerm → List ℕ → Saying
  includes_roles : RoleTerm → RoleTerm → Saying
  disjoint : BasicTerm → BasicTerm → Saying
  disjoint_roles : RoleTerm → RoleTerm → Saying
  has_no_form : Saying

-- ---- what the words begin with, and the words behind it

abbrev pub role_first : List Word → Option (RoleTerm × List Word)
role_first (name r ∷ rest) = Some (record { role = r; inverse = false }, rest)
role_first (inv ∷ name r ∷ rest) = Some (record { role = r; inverse = true }, rest)
role_first _ = None

abbrev pub basic_first : List Word → Option (BasicTerm × List Word)
basic_first (name c ∷ rest) = Some (concept c, rest)
basic_first (some ∷ rest) = option_map (λ found. (existing found.0, found.1)) (role_first rest)
basic_first _ = None

-- ---- the forms of a line behind its first word

abbrev pub declaration : Kind → List Word → Saying
declaration kind (name n ∷ []) = declares kind n
declaration kind _ = has_no_form

-- the right side of an inclusion; `some R N` is qualified
abbrev pub right_of : BasicTerm → BasicTerm × List Word → Saying
right_of left (right, []) = includes left right
right_of left (existing r, name c ∷ []) = includes_qualified left r c
right_of left _ = has_no_form

abbrev pub inclusion : List Word → Saying
inclusion rest = option_map_or (λ left.
    option_map_or (right_of left.0) (basic_first left.1) has_no_form) (basic_first rest) has_no_form

-- two terms with nothing behind them
abbrev pub last_two : {X : Type 0} → (X → X → Saying) → X → X × List Word → Saying
last_two says left (right, []) = says left right
last_two says left _ = has_no_form

abbrev pub pair_of : {X : Type 0} → (List Word → Option (X × List Word)) → (X → X → Saying)
    → List Word → Saying
pair_of first says rest = option_map_or (λ left.
    option_map_or (last_two says left.0) (first left.1) has_no_form) (first rest) has_no_form

-- by its first word
abbrev pub line_form : List ℕ → List Word → Saying
line_form word rest =
    if bytes_eq word (codes "concept") then declaration Concept rest
    else if bytes_eq word (codes "role") then declaration Role rest
    else if bytes_eq word (codes "individual") then declaration Individual rest
    else if bytes_eq word (codes "sub") then inclusion rest
    else if bytes_eq word (codes "subrole") then pair_of role_first includes_roles rest
    else if bytes_eq word (codes "disjoint") then pair_of basic_first disjoint rest
    else if bytes_eq word (codes "disjointrole") then pair_of role_first disjoint_roles rest
    else has_no_form

unfoldable pub words_say : List Word → Saying
words_say [] = nothing
words_say (name word ∷ rest) = line_form word rest
words_say _ = has_no_form

-- ---- from tokens to words

abbrev pub is_name_kind : TokenKind → Bool
is_name_kind token.Name = true
is_name_kind _ = false

-- the words of a line whose tokens are names
unfoldable pub words_of : List Lexeme → Option (List Word)
words_of [] = Some []
words_of (l ∷ ls) = if is_name_kind l.kind then option_map (λ rest.
    word_of l.text ∷ rest) (words_of ls) else None

-- a line with a byte at fault has no words
abbrev pub words_read : Lexed → Option (List Word)
words_read read = option_map_or (λ fault. None) read.fault (words_of read.tokens)

unfoldable pub line_says : List ℕ → Saying
line_says line = option_map_or words_say (words_read (lexed 0 0 line)) has_no_form
