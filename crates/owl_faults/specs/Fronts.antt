-- The fronts of documents, and where tokens stop being one.
use Rattle.std.specs.Prelude.{◌≡◌, ◌≤◌, ◌+◌, ℕ, List, [], ◌∷◌, ◌++◌, count_by, Option, Some, None}
use Rattle.owl_tokens.specs.declared.tokens.TokenKind.TheVariants as kind
use Rattle.owl_tokens.specs.Tokens.{Lexeme}
use Rattle.owl_documents.specs.Terms.{is_open, is_close, group_of}
use Rattle.owl_documents.specs.Documents.{Document}
use Rattle.owl_grammar.specs.Grammar.{IsDocument}

-- how many parentheses are opened, and how many are closed
abbrev pub opened : List Lexeme → ℕ
opened tokens = count_by (λ t. is_open t.kind) tokens

abbrev pub closed : List Lexeme → ℕ
closed tokens = count_by (λ t. is_close t.kind) tokens

-- the tokens end in an item: its parenthesis is open, and that of the ontology around it
abbrev pub InItem : List Lexeme → Type 0
InItem front = closed front + 2 ≤ opened front

-- the tokens end in a word
pub record EndsInWord (front : List Lexeme) : Type 0 where
  pub before : List Lexeme
  pub word : Lexeme
  pub ends : front ≡ before ++ word ∷ []
  pub is_word : word.kind ≡ kind.Word

-- the second open no group where the first open none
abbrev pub Follows : List Lexeme → List Lexeme → Type 0
Follows behind other = group_of behind ≡ None → group_of other ≡ None

-- some document begins with the front, behind which these tokens stand here. In an item a word that
-- the front ends in heads a group there only where it heads one here; a word that begins a prefix,
-- the ontology or an item has to head one, so that what stands behind it is at fault, and not the
-- word
pub record GoesOn (front behind : List Lexeme) : Type 0 where
  pub rest : List Lexeme
  pub document : Document
  pub is : IsDocument (front ++ rest) document
  pub heads : EndsInWord front → InItem front → Follows behind rest

-- the token at the place is the first that no document goes on with
pub record RefusedAt (tokens : List Lexeme) (place : ℕ) : Type 0 where
  pub front : List Lexeme
  pub token : Lexeme
  pub behind : List Lexeme
  pub parts : tokens ≡ front ++ token ∷ behind
  pub at : token.start ≡ place
  pub before : GoesOn front (token ∷ behind)
  pub refused : ¬ GoesOn (front ++ token ∷ []) behind

-- some document begins with the tokens, and they are none
pub record CutOff (tokens : List Lexeme) : Type 0 where
  pub before : GoesOn tokens []
  pub unfinished : (d : Document) → ¬ IsDocument tokens d

-- the place of the first token that no document goes on with, or none where the tokens end before
-- they are a document
abbrev pub FirstRefused : List Lexeme → Option ℕ → Type 0
FirstRefused tokens (Some place) = RefusedAt tokens place
FirstRefused tokens None = CutOff tokens
