-- Laws of what a query text says.
use Rattle.std.specs.Prelude.{◌≡◌, ℕ, List}
use Rattle.std.specs.List.{All}
use Rattle.dl_syntax.specs.Names.{IsName}
use Rattle.dl_syntax.specs.Ontology.{Declared}
use Rattle.tcq_syntax.specs.Tcq.{Tcq}
use Rattle.tcq_syntax.specs.Within.{AreWithin}
use Rattle.tcq_reader.specs.declared.faults.QueryKind.{QueryKind}
use Rattle.tcq_reader.specs.Reading.{SaysQueries, IsFault}

-- the queries that a text says over an ontology are within what it allows
abbrev pub SaidAreWithin : Type 0
SaidAreWithin = (o : Declared) (text : List ℕ) (queries : List Tcq)
    → SaysQueries o text queries → AreWithin o queries

-- each query that a text says has a name that is spelled as one
abbrev pub SaidAreNamed : Type 0
SaidAreNamed = (o : Declared) (text : List ℕ) (queries : List Tcq)
    → SaysQueries o text queries → All (λ q. IsName q.name) queries

-- a text says one list of queries at most
abbrev pub OneSaying : Type 0
OneSaying = (o : Declared) (text : List ℕ) (queries other : List Tcq)
    → SaysQueries o text queries → SaysQueries o text other → queries ≡ other

-- a text that says queries has no fault
abbrev pub SaidHaveNoFault : Type 0
SaidHaveNoFault = (o : Declared) (text : List ℕ) (queries : List Tcq) (line : ℕ) (kind : QueryKind)
    → SaysQueries o text queries → ¬ IsFault o text line kind

-- a text has one first fault at most: one line and one kind
abbrev pub OneFault : Type 0
OneFault = (o : Declared) (text : List ℕ) (line other_line : ℕ) (kind other : QueryKind)
    → IsFault o text line kind → IsFault o text other_line other
    → (line ≡ other_line) × (kind ≡ other)
