-- Documents, as they are written.
use Rattle.std.specs.Prelude.{ℕ, ◌+◌, ◌==◌, ◌&&◌, not, Bool, false, if◌then◌else◌, List}
use Rattle.std.specs.Prelude.{[], ◌∷◌, length, codes, Some, None, Ok, Err}
use Rattle.std.specs.List.{prefix_len}
use Rattle.std.specs.Str.{bytes_eq}
use Rattle.owl_tokens.specs.Tokens.{Lexeme}
use Rattle.owl_tokens.specs.Tables.{Table}
use Rattle.owl_tokens.specs.Iris.{is_iri, is_no_colon, prefix_of, between_brackets, own_prefixes}
use Rattle.owl_tokens.specs.Iris.{with_prefixes}
use Rattle.owl_documents.specs.Terms.{Read, ◌>>=◌, is_equal, is_word, open_first, close_first}
use Rattle.owl_documents.specs.Items.{many, up_to_close, Item, item_first}

abbrev pub is_the_word : List ℕ → Lexeme → Bool
is_the_word text t = is_word t.kind && bytes_eq t.text text

-- the tokens behind a word and the opening parenthesis of the group that it heads
abbrev pub headed_first : List ℕ → List Lexeme → Read (List Lexeme)
headed_first text [] = Err None
headed_first text (t ∷ rest) = if is_the_word text t then open_first rest else Err (Some t.start)

-- ---- prefixes

-- `p:`, with no `:` in p
abbrev pub is_prefix_name : Lexeme → Bool
is_prefix_name t = is_word t.kind && prefix_len is_no_colon t.text + 1 == length t.text

abbrev pub name_first : List Lexeme → Read (List ℕ × List Lexeme)
name_first [] = Err None
name_first (t ∷ rest) = if is_prefix_name t then Ok (prefix_of t.text, rest) else Err (Some t.start)

abbrev pub equal_first : List Lexeme → Read (List Lexeme)
equal_first [] = Err None
equal_first (t ∷ rest) = if is_equal t.kind then Ok rest else Err (Some t.start)

abbrev pub iri_first : List Lexeme → Read (List ℕ × List Lexeme)
iri_first [] = Err None
iri_first (t ∷ rest) = if is_iri t.kind then Ok (between_brackets t.text, rest) else Err
    (Some t.start)

-- `Prefix(p:=<iri>)`
unfoldable pub prefix_first : List Lexeme → Read ((List ℕ × List ℕ) × List Lexeme)
prefix_first tokens = do
  inside ← headed_first (codes "Prefix") tokens
  name ← name_first inside
  behind ← equal_first name.1
  iri ← iri_first behind
  end ← close_first iri.1
  Ok ((name.0, iri.0), end.1)

-- the tokens go on with something else than a prefix
abbrev pub no_prefix : List Lexeme → Bool
no_prefix [] = false
no_prefix (t ∷ rest) = not (is_the_word (codes "Prefix") t)

abbrev pub prefixes_first : List Lexeme → Read (List (List ℕ × List ℕ) × List Lexeme)
prefixes_first tokens = many no_prefix prefix_first (length tokens) tokens

-- ---- the ontology

abbrev pub behind_iri : List Lexeme → List Lexeme
behind_iri [] = []
behind_iri (t ∷ rest) = if is_iri t.kind then rest else t ∷ rest

-- behind two at most
abbrev pub behind_iris : List Lexeme → List Lexeme
behind_iris tokens = behind_iri (behind_iri tokens)

-- the prefixes that are known, and the items
pub record Document : Type 0 where
  pub known : Table
  pub items : List Item

-- nothing stands behind the document
abbrev pub at_end : Document → List Lexeme → Read Document
at_end document [] = Ok document
at_end document (t ∷ rest) = Err (Some t.start)

-- the ontology behind the prefixes: at most two IRIs and the items
unfoldable pub ontology_read : Table → List Lexeme → Read Document
ontology_read known tokens = do
  inside ← headed_first (codes "Ontology") tokens
  items ← up_to_close (item_first known) (behind_iris inside)
  end ← close_first items.1
  at_end (record { known = known; items = items.0 }) end.1

-- the document that the tokens are
unfoldable pub document_read : List Lexeme → Read Document
document_read tokens = do
  prefixes ← prefixes_first tokens
  ontology_read (with_prefixes own_prefixes prefixes.0) prefixes.1
