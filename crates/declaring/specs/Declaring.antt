-- Why names that come with a stream are refused.
use Rattle.std.specs.Prelude.{◌≡◌, ℕ, ◌⊎◌, Bool, false, Some, List}
use Rattle.std.specs.List.{All}
use Rattle.dl_syntax.specs.Ontology.{Declared}
use Rattle.tcq_syntax.specs.Tcq.{Tcq, IsTcq}
use Rattle.tcq_syntax.specs.Arrivals.{NameFault, Closed, NameTwice, TooMany, TooLarge}
use Rattle.tcq_syntax.specs.Arrivals.{IsFirstFault, fault_of_name}
use Rattle.declaring.specs.declared.fault.DeclareFault.{DeclareFault}
use Rattle.declaring.specs.declared.fault.DeclareFault.TheVariants as declare

-- the queries are well formed
abbrev pub AreTables : List Tcq → Type 0
AreTables queries = All (λ query. IsTcq query.vars query.nodes) queries

-- how what is at fault with the name at a place is told
abbrev pub told_at : ℕ → NameFault → DeclareFault
told_at place Closed = declare.Closed
told_at place NameTwice = declare.NameTwice place
told_at place TooMany = declare.TooMany place
told_at place (TooLarge total) = declare.TooLarge place total

-- the name at the place is refused for what is at fault with it, or for want of memory
abbrev pub IsNameRefusal : Declared → List Tcq → List ℕ → ℕ → DeclareFault → Type 0
IsNameRefusal o queries name place told = (told ≡ declare.Memory) ⊎ (fault : NameFault)
    × (fault_of_name o queries false name ≡ Some fault) × (told ≡ told_at place fault)

-- the list is refused for the first fault, or for want of memory
abbrev pub IsRefusal : Declared → List Tcq → Bool → List (List ℕ) → DeclareFault → Type 0
IsRefusal o queries closed names told = (told ≡ declare.Memory) ⊎ (place : ℕ) × (fault : NameFault)
    × IsFirstFault o queries closed names place fault × (told ≡ told_at place fault)
