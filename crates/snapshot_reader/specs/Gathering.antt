-- What is known of a line behind its first facts.
use Rattle.std.specs.Prelude.{◌≡◌, List, length}
use Rattle.std.specs.List.{filter_map}
use Rattle.dl_syntax.specs.Ontology.{Declared}
use Rattle.snapshot_reader.specs.declared.blaming.Blamed.{Blamed}
use Rattle.snapshot_reader.specs.declared.gathering.Gathered.{Gathered}
use Rattle.snapshot_reader.specs.Written.{Written}
use Rattle.snapshot_reader.specs.Cursor.{name_seen}
use Rattle.snapshot_reader.specs.Said.{first_unknown, first_misused, first_undeclared, fact_of}
use Rattle.snapshot_reader.specs.ModelLines.{first_misplaced}

-- the first name at fault for each cause, how many facts were written, and those whose names are
-- declared so
pub record Gathers (o : Declared) (done : List Written) (h : Gathered) : Type 0 where
  pub unknown : name_seen h.blamed.unknown ≡ first_unknown o done
  pub misused : name_seen h.blamed.misused ≡ first_misused o done
  pub undeclared : name_seen h.blamed.undeclared ≡ first_undeclared o done
  pub count : h.count ≡ length done
  pub facts : h.facts.items ≡ filter_map (fact_of o) done

-- the first name at fault for each cause in the facts of a model
pub record AreBlamedInModel (o : Declared) (facts : List Written) (b : Blamed) : Type 0 where
  pub unknown : name_seen b.unknown ≡ first_unknown o facts
  pub misused : name_seen b.misused ≡ first_misused o facts
  pub misplaced : name_seen b.undeclared ≡ first_misplaced o facts
