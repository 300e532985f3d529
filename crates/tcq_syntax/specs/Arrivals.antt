-- Which names a stream may declare, and why not.
use Rattle.std.specs.Prelude.{◌≡◌, ℕ, ◌+◌, ◌<◌, nat_le, if◌then◌else◌, Bool, Option, Some, None}
use Rattle.std.specs.Prelude.{List, take, length, slice_get}
use Rattle.dl_syntax.specs.declared.names.Kind.TheVariants.{Individual}
use Rattle.dl_syntax.specs.Ontology.{Declared, is_declared, most_names, with_individuals}
use Rattle.tcq_syntax.specs.Tcq.{Tcq}
use Rattle.tcq_syntax.specs.Histories.{History}
use Rattle.tcq_syntax.specs.Sizes.{units, most_units}

-- why a stream may not declare a name: no further name may come, it is declared already, there are
-- as many individuals as there may be, or the units with it, so many, are too many
pub data NameFault : Type 0 where
  Closed : NameFault
  NameTwice : NameFault
  TooMany : NameFault
  TooLarge : (total : ℕ) → NameFault

-- so many units are too many
abbrev pub fault_of_units : ℕ → Option NameFault
fault_of_units total = if nat_le total most_units then None else Some (TooLarge total)

-- there are so many individuals, and one more is too many
abbrev pub fault_of_count : List Tcq → ℕ → Option NameFault
fault_of_count queries count = if nat_le (most_names Individual) count then Some TooMany
    else fault_of_units (units (count + 1) queries)

-- the first thing that is at fault with one more name, where the ontology has the names so far
abbrev pub fault_of_name : Declared → List Tcq → Bool → List ℕ → Option NameFault
fault_of_name o queries closed name = if closed then Some Closed
    else if is_declared o name then Some NameTwice
    else fault_of_count queries (length o.individuals)

-- what is at fault with the name at the place, after those before it
abbrev pub IsFaultAt : Declared → List Tcq → Bool → List (List ℕ) → ℕ → Option NameFault → Type 0
IsFaultAt o queries closed names place fault = (name : List ℕ) → slice_get names place ≡ Some name
    → fault_of_name (with_individuals (take place names) o) queries closed name ≡ fault

-- each name is acceptable after those before it
abbrev pub AreAcceptable : Declared → List Tcq → Bool → List (List ℕ) → Type 0
AreAcceptable o queries closed names = (place : ℕ) → IsFaultAt o queries closed names place None

-- the name at the place is the first one at fault, each after those before it
pub record IsFirstFault (o : Declared) (queries : List Tcq) (closed : Bool)
    (names : List (List ℕ)) (place : ℕ) (fault : NameFault) : Type 0 where
  pub within : place < length names
  pub before : (earlier : ℕ) → earlier < place → IsFaultAt o queries closed names earlier None
  pub there : IsFaultAt o queries closed names place (Some fault)

-- what is at fault with one more name after the history
abbrev pub fault_after : Declared → List Tcq → History → List ℕ → Option NameFault
fault_after o queries history name =
    fault_of_name (with_individuals history.names o) queries history.is_closed name
