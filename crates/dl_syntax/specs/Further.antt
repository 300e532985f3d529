-- What further individuals leave as it is.
use Rattle.std.specs.Prelude.{◌≡◌, ℕ, ◌⊎◌, ◌↔◌, Some, List, [], ◌∷◌, ◌++◌, length, slice_get}
use Rattle.std.specs.List.{Contains}
use Rattle.dl_syntax.specs.declared.names.Kind.{Kind}
use Rattle.dl_syntax.specs.declared.names.Kind.TheVariants.{Individual}
use Rattle.dl_syntax.specs.Ontology.{Declared, IsDeclared, names_of, number_of, with_name}
use Rattle.dl_syntax.specs.Ontology.{with_individuals, first_individuals}

-- concepts, roles, inclusions and clashes stay with further individuals
abbrev pub StatementsStay : Type 0
StatementsStay =
    (o : Declared) (names : List (List ℕ)) → first_individuals 0 (with_individuals names o)
    ≡ first_individuals 0 o

-- each name keeps its number with further individuals, and each number its name
abbrev pub NumbersStay : Type 0
NumbersStay =
    (o : Declared) (names : List (List ℕ)) (kind : Kind) (text : List ℕ) (number : ℕ) →
    number_of kind o text ≡ Some number →
    number_of kind (with_individuals names o) text ≡ Some number

abbrev pub NamesStay : Type 0
NamesStay =
    (o : Declared) (names : List (List ℕ)) (kind : Kind) (text : List ℕ) (number : ℕ) →
    slice_get (names_of kind o) number ≡ Some text →
    slice_get (names_of kind (with_individuals names o)) number ≡ Some text

-- declared with further individuals is what was declared before, and these
abbrev pub FurtherAreDeclared : Type 0
FurtherAreDeclared =
    (o : Declared) (names : List (List ℕ)) (text : List ℕ) →
    IsDeclared (with_individuals names o) text ↔ (IsDeclared o text ⊎ Contains names text)

-- further individuals come one by one
abbrev pub FurtherOneByOne : Type 0
FurtherOneByOne =
    (o : Declared) (names : List (List ℕ)) (name : List ℕ) →
    with_individuals (names ++ name ∷ []) o ≡ with_name Individual name (with_individuals names o)

-- without the further individuals the ontology is as before
abbrev pub KeepingGivesBack : Type 0
KeepingGivesBack =
    (o : Declared) (names : List (List ℕ)) →
    first_individuals (length o.individuals) (with_individuals names o) ≡ o
