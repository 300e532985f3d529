-- What a search for a match finds.
use Rattle.std.specs.Prelude.{◌≡◌, List, map}
use Rattle.std.specs.List.{Contains}
use Rattle.dl_syntax.specs.declared.names.IndId.{IndId}
use Rattle.dl_syntax.specs.declared.facts.Element.TheVariants.{Ind as ind_element}
use Rattle.dl_syntax.specs.declared.facts.Fact.{Fact}
use Rattle.dl_syntax.specs.declared.queries.Term.{Term}
use Rattle.dl_syntax.specs.declared.queries.Atom.{Atom}
use Rattle.dl_syntax.specs.declared.queries.Cq.{Cq}
use Rattle.dl_syntax.specs.Match.{Assignment, Match, term_at, atom_at}
use Rattle.proof_search.specs.declared.bindings.Binding.{Binding}
use Rattle.proof_search.specs.Bindings.{Extends, assigned_by}

-- some match extends the bindings
abbrev pub HasMatch : List Fact → List Atom → List Binding → Type 0
HasMatch facts body bs = (t : Assignment) × Extends bs t × Match body facts t

-- and sends an atom to this fact
abbrev pub HasMatchAt : List Fact → Atom → List Atom → List Binding → Fact → Type 0
HasMatchAt facts a rest bs f = (t : Assignment) × Extends bs t × (atom_at t a ≡ f)
    × Match rest facts t

-- or to one of these
abbrev pub HasMatchAmong : List Fact → Atom → List Atom → List Binding → List Fact → Type 0
HasMatchAmong facts a rest bs fs = (f : Fact) × Contains fs f × HasMatchAt facts a rest bs f

-- each assignment that extends the new bindings extends the old ones and is a match
abbrev pub Binds : List Fact → List Atom → List Binding → List Binding → Type 0
Binds facts body old new = (t : Assignment) → Extends new t → Extends old t × Match body facts t

-- and sends an atom to this fact
abbrev pub BindsAt : List Fact → Atom → List Atom → Fact → List Binding → List Binding → Type 0
BindsAt facts a rest f old new = (t : Assignment) → Extends new t
    → Extends old t × (atom_at t a ≡ f) × Match rest facts t

-- the head becomes the row
abbrev pub HeadBecomes : List Term → List IndId → Assignment → Type 0
HeadBecomes head row t = map (term_at t) head ≡ map ind_element row

-- the assignments under which the head becomes the row are those that extend the bindings
abbrev pub BindsHead : List Term → List IndId → List Binding → Type 0
BindsHead head row bs = (t : Assignment)
    → (Extends bs t → HeadBecomes head row t) × (HeadBecomes head row t → Extends bs t)

-- the bindings are a match of the query among the facts that makes its head the row
pub record IsMatchedBy (q : Cq) (facts : List Fact) (row : List IndId) (bs : List Binding) : Type 0
  where
    pub match : Match q.body facts (assigned_by bs)
    pub head : HeadBecomes q.head row (assigned_by bs)
