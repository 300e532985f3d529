-- The substitution that sends a head to a row.
use Rattle.std.specs.Prelude.{◌≡◌, ◌==◌, if◌then◌else◌, List, [], ◌∷◌, map}
use Rattle.dl_syntax.specs.declared.names.IndId.{IndId}
use Rattle.dl_syntax.specs.declared.queries.Term.{Term}
use Rattle.dl_syntax.specs.declared.queries.Term.TheVariants.{Var, Ind}
use Rattle.query_unify.specs.Substitution.{Substitution, applied}

-- each variable of the head becomes the individual at its first place, and the others stay
abbrev pub bound_to : List Term → List IndId → Substitution
bound_to [] row v = Var v
bound_to (x ∷ head) [] v = Var v
bound_to (Var w ∷ head) (i ∷ row) v = if w == v then Ind i else bound_to head row v
bound_to (Ind j ∷ head) (i ∷ row) v = bound_to head row v

-- the substitution sends the head to the row
abbrev pub Becomes : Substitution → List Term → List IndId → Type 0
Becomes s head row = map (applied s) head ≡ map Ind row
