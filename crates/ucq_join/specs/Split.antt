-- Parts of a body that share no variable.
use Rattle.std.specs.Prelude.{◌↔◌, ◌⊎◌, ℕ, List}
use Rattle.std.specs.List.{Contains}
use Rattle.dl_syntax.specs.declared.queries.Term.{Term}
use Rattle.dl_syntax.specs.declared.queries.Term.TheVariants as term
use Rattle.dl_syntax.specs.declared.queries.Atom.{Atom}
use Rattle.dl_syntax.specs.declared.queries.Atom.TheVariants as atom
use Rattle.dl_syntax.specs.Queries.{HasTerm}

-- the term is one of the variables
abbrev pub IsMet : List Term → Term → Type 0
IsMet known (term.Var v) = Contains known (term.Var v)
IsMet known (term.Ind a) = ⊥

-- the atom has one of the variables
abbrev pub Touches : List Term → Atom → Type 0
Touches known (atom.Concept c x) = IsMet known x
Touches known (atom.Role p x y) = IsMet known x ⊎ IsMet known y

-- the new terms are the old ones and those of the atom
pub record AddsTerms (a : Atom) (old new : List Term) : Type 0 where
  pub kept : (x : Term) → Contains old x → Contains new x
  pub added : (x : Term) → HasTerm a x → Contains new x
  pub only : (x : Term) → Contains new x → Contains old x ⊎ HasTerm a x

-- the atoms are those taken and the rest, which has no variable of the terms or of an atom that is
-- taken
pub record IsSplit (terms : List Term) (atoms taken rest : List Atom) : Type 0 where
  pub members : (a : Atom) → Contains atoms a ↔ (Contains taken a ⊎ Contains rest a)
  pub apart_from_terms : (a : Atom) (v : ℕ) → Contains rest a → HasTerm a (term.Var v)
      → Contains terms (term.Var v) → ⊥
  pub apart : (a b : Atom) (v : ℕ) → Contains rest a → HasTerm a (term.Var v) → Contains taken b
      → HasTerm b (term.Var v) → ⊥
