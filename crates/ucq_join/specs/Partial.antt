-- What a partial assignment leads to.
use Rattle.std.specs.Prelude.{◌≡◌, List, [], ◌∷◌, ◌++◌, Option, Some, None, ◌⊎◌, map}
use Rattle.std.specs.List.{AllByRecursion, Contains}
use Rattle.dl_syntax.specs.declared.names.IndId.{IndId}
use Rattle.dl_syntax.specs.declared.facts.Element.{Element}
use Rattle.dl_syntax.specs.declared.facts.Element.TheVariants as element
use Rattle.dl_syntax.specs.declared.facts.Fact.{Fact}
use Rattle.dl_syntax.specs.declared.queries.Term.{Term}
use Rattle.dl_syntax.specs.declared.queries.Term.TheVariants as term
use Rattle.dl_syntax.specs.declared.queries.Atom.{Atom}
use Rattle.dl_syntax.specs.Queries.{HasTerm}
use Rattle.dl_syntax.specs.Match.{Assignment, Match, term_at, atom_at}
use Rattle.ucq_join.specs.declared.bindings.Binding.{Binding}
use Rattle.ucq_join.specs.Bindings.{value_of, Extends, IsAssigned}

-- a term is assigned, or stands in an atom that is left
abbrev pub IsCovered : List Binding → List Atom → Term → Type 0
IsCovered bs [] x = IsAssigned bs x
IsCovered bs (a ∷ rest) x = HasTerm a x ⊎ IsCovered bs rest x

-- each term of the head is
abbrev pub HeadIsCovered : List Binding → List Atom → List Term → Type 0
HeadIsCovered bs body head = AllByRecursion (IsCovered bs body) head

-- the assignment sends the head to the row
abbrev pub HeadBecomes : List Term → Assignment → List IndId → Type 0
HeadBecomes head t row = map (term_at t) head ≡ map element.Ind row

-- some match that extends the bindings sends the head to the row
abbrev pub IsAnswerFrom : List Fact → List Term → List Atom → List Binding → List IndId → Type 0
IsAnswerFrom facts head body bs row = (t : Assignment) × Extends bs t × Match body facts t
    × HeadBecomes head t row

-- and sends the first atom to this fact
abbrev pub IsAnswerAt : List Fact → List Term → Atom → List Atom → List Binding → Fact → List IndId
    → Type 0
IsAnswerAt facts head a rest bs f row = (t : Assignment) × Extends bs t × (atom_at t a ≡ f)
    × Match rest facts t × HeadBecomes head t row

-- or to one of these facts
abbrev pub IsAnswerAmong : List Fact → List Term → Atom → List Atom → List Binding → List Fact
    → List IndId → Type 0
IsAnswerAmong facts head a rest bs fs row = (f : Fact) × Contains fs f
    × IsAnswerAt facts head a rest bs f row

-- some match extends the bindings
abbrev pub HasMatch : List Fact → List Atom → List Binding → Type 0
HasMatch facts body bs = (t : Assignment) × Extends bs t × Match body facts t

-- and sends an atom to this fact
abbrev pub HasMatchAt : List Fact → Atom → List Atom → List Binding → Fact → Type 0
HasMatchAt facts a rest bs f = (t : Assignment) × Extends bs t × (atom_at t a ≡ f)
    × Match rest facts t

-- or to one of these
abbrev pub HasMatchAmong : List Fact → Atom → List Atom → List Binding → List Fact → Type 0
HasMatchAmong facts a rest bs fs = (f : Fact) × Contains fs f × HasMatchAt facts a rest bs f

-- among fs are all of the facts that the atom can become
abbrev pub IsComplete : List Binding → Atom → List Fact → List Fact → Type 0
IsComplete bs a facts fs = (t : Assignment) → Extends bs t → Contains facts (atom_at t a)
    → Contains fs (atom_at t a)

-- the individual of a value
abbrev pub place_in : Option Element → Option IndId
place_in None = None
place_in (Some (element.Ind a)) = Some a
place_in (Some (element.Null n)) = None

-- the individual that a term becomes
abbrev pub place_of : List Binding → Term → Option IndId
place_of bs (term.Ind a) = Some a
place_of bs (term.Var v) = place_in (value_of bs v)

abbrev pub cons_place : Option IndId → Option (List IndId) → Option (List IndId)
cons_place None o = None
cons_place (Some n) None = None
cons_place (Some n) (Some ns) = Some (n ∷ ns)

-- the row that a head becomes
abbrev pub row_of : List Binding → List Term → Option (List IndId)
row_of bs [] = Some []
row_of bs (x ∷ xs) = cons_place (place_of bs x) (row_of bs xs)

-- the row where the first places are known
abbrev pub after_places : List IndId → Option (List IndId) → Option (List IndId)
after_places ns None = None
after_places ns (Some ms) = Some (ns ++ ms)
