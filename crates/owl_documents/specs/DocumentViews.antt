-- Documents, without where their texts lie in memory.
use Rattle.std.specs.Prelude.{ℕ, List, map}
use Rattle.owl_documents.specs.declared.documents.Document as documents
use Rattle.owl_documents.specs.Documents.{Document}
use Rattle.owl_documents.specs.ItemViews.{item_seen}

abbrev pub document_seen : List ℕ → documents.Document → Document
document_seen bytes d = record { known = d.known; items = map (item_seen bytes) d.items.items }
