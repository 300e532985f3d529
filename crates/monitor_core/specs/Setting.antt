-- What a monitor watches.
use Rattle.std.specs.Prelude.{List}
use Rattle.dl_syntax.specs.Ontology.{Declared}
use Rattle.tcq_syntax.specs.Tcq.{Tcq}

-- queries, and the ontology under which they are answered
pub record Setting : Type 0 where
  pub ontology : Declared
  pub queries : List Tcq
