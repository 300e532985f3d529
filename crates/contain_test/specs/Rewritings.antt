-- How many queries the second query and the clashes reach by rewriting.
use Rattle.std.specs.Prelude.{ℕ, ◌∷◌}
use Rattle.dl_syntax.specs.declared.queries.Cq.{Cq}
use Rattle.dl_syntax.specs.Ontology.{Declared}
use Rattle.perfect_ref.specs.Plain.{encoded}
use Rattle.perfect_ref.specs.Counting.{ReachMore}
use Rattle.consistency.specs.Asking.{queries_of}

-- the query and the clashes' queries reach more than so many in all, each counted by itself
abbrev pub ReachMoreTogether : Declared → Cq → ℕ → Type 0
ReachMoreTogether o q room = ReachMore (encoded o) (q ∷ queries_of o.clashes) room
