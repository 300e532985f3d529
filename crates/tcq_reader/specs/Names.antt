-- What a name in a query is declared as.
use Rattle.std.specs.Prelude.{ℕ, Bool, if◌then◌else◌, List, Option, Some, None}
use Rattle.dl_syntax.specs.declared.names.Kind.{Kind}
use Rattle.dl_syntax.specs.Ontology.{Declared, number_of, is_declared}
use Rattle.tcq_reader.specs.declared.faults.QueryKind.{QueryKind}
use Rattle.tcq_reader.specs.declared.faults.QueryKind.TheVariants.{Unknown, WrongKind, Undeclared}

abbrev pub verdict_of_number : Option ℕ → Bool → Option QueryKind
verdict_of_number (Some number) known = None
verdict_of_number None known = if known then Some WrongKind else Some Unknown

-- what is wrong with a predicate that is to be of this kind
abbrev pub verdict_of_name : Declared → Kind → List ℕ → Option QueryKind
verdict_of_name o kind text = verdict_of_number (number_of kind o text) (is_declared o text)

abbrev pub verdict_of_individual : Option ℕ → Option QueryKind
verdict_of_individual (Some number) = None
verdict_of_individual None = Some Undeclared
