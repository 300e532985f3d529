-- How the answers of the disjoint of a reader tell what a line does.
use Rattle.std.specs.Prelude.{◌≡◌, Result, Ok, Err}
use Rattle.dl_syntax.specs.Names.{IsDeclarable}
use Rattle.dl_syntax.specs.Ontology.{Declared}
use Rattle.ontology_reader.specs.declared.OntologyKind.{OntologyKind}
use Rattle.ontology_reader.specs.declared.adding.LineFault.{LineFault}
use Rattle.ontology_reader.specs.declared.adding.LineFault.TheVariants as fault
use Rattle.ontology_reader.specs.Sayings.{Saying, declares}

abbrev pub Fails : {Y : Type 0} → LineFault → Result Y OntologyKind → Type 0
Fails (fault.Kind kind) given = given ≡ Err kind
Fails fault.Memory given = Unit {0}

-- the answer is what the definition gives, unless memory ran out
abbrev pub Gives : {X Y : Type 0} → Result X LineFault → Result Y OntologyKind → (X → Y) → Type 0
Gives (Ok x) given see = given ≡ Ok (see x)
Gives (Err e) given see = Fails e given

-- the ontology after a call that goes well is the one that the definition gives
abbrev pub Changes : Result (Unit {0}) LineFault → Result Declared OntologyKind → Declared → Type 0
Changes (Ok done) given new = given ≡ Ok new
Changes (Err e) given new = Fails e given

-- a declared name is one that an ontology may declare
abbrev pub IsDeclarableSaying : Saying → Type 0
IsDeclarableSaying (declares kind text) = IsDeclarable text
IsDeclarableSaying _ = Unit {0}
