-- The names of the files of a job.
use Rattle.std.specs.Prelude.{ℕ, Bool, List}
use Rattle.job_sources.specs.declared.names.Names.{Names}

-- the names of the files of the ontology and of the queries, and whether the ontology is an OWL 2
-- document
pub record FileNames : Type 0 where
  pub ontology : List ℕ
  pub queries : List ℕ
  pub owl : Bool

-- the names without where they lie in memory
abbrev pub file_names : Names → FileNames
file_names names = record {
  ontology = names.ontology.now;
  queries = names.queries.now;
  owl = names.owl;
}
