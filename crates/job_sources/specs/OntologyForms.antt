-- What the text of an ontology says, in its own form or as an OWL 2 document.
use Rattle.std.specs.Prelude.{◌≡◌, ℕ, Bool, true, false, List, Ok, Err}
use Rattle.dl_syntax.specs.Ontology.{Declared}
use Rattle.ontology_reader.specs.Texts.{text_says}
use Rattle.owl_reader.specs.Reading.{told, text_says as document_says}
use Rattle.job_sources.specs.declared.refusal.Refusal.{Refusal}
use Rattle.job_sources.specs.declared.refusal.Refusal.TheVariants.{BadOntology, BadDocument}

-- the text, which is a document or isn't, has no fault, and says this ontology
abbrev pub SaysAs : Bool → List ℕ → Declared → Type 0
SaysAs true text ontology = document_says text ≡ Ok ontology
SaysAs false text ontology = text_says text ≡ Ok ontology

-- this is its first fault
abbrev pub IsFaultyAs : Bool → List ℕ → Refusal → Type 0
IsFaultyAs true text (BadDocument line kind) = document_says text ≡ Err (line, told kind)
IsFaultyAs false text (BadOntology line kind) = text_says text ≡ Err (line, kind)
IsFaultyAs _ text _ = ⊥
