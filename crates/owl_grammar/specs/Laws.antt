-- Laws of documents.
use Rattle.std.specs.Prelude.{◌≡◌, ◌↔◌, List, Ok}
use Rattle.owl_tokens.specs.Tokens.{Lexeme}
use Rattle.owl_documents.specs.Documents.{Document, document_read}
use Rattle.owl_grammar.specs.Grammar.{IsDocument}

-- tokens are read as a document exactly where they are this one
abbrev pub ReadsDocuments : Type 0
ReadsDocuments = (tokens : List Lexeme) (d : Document) → (document_read tokens ≡ Ok d)
    ↔ IsDocument tokens d

-- tokens are one document at most
abbrev pub OneDocument : Type 0
OneDocument = (tokens : List Lexeme) (d e : Document) → IsDocument tokens d → IsDocument tokens e
    → d ≡ e
