-- The entities and the ontology of declarations, without where they lie in memory.
use Rattle.owl_reader.specs.declared.declarations.Vocabulary as vocabularies
use Rattle.owl_reader.specs.Statements.{Vocabulary}
use Rattle.owl_reader.specs.StatementViews.{entities_seen}

abbrev pub vocabulary_seen : vocabularies.Vocabulary → Vocabulary
vocabulary_seen v = record { entities = entities_seen v.entities; ontology = v.ontology }
