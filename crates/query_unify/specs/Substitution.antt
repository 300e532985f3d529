-- Substitutions of terms for variables, and the most general of those that make two atoms equal,
-- after Robinson 1965 and Martelli and Montanari 1982.
use Rattle.std.specs.Prelude.{◌≡◌, ◌==◌, ℕ, if◌then◌else◌, List, [], ◌∷◌, map}
use Rattle.dl_syntax.specs.declared.queries.Term.{Term}
use Rattle.dl_syntax.specs.declared.queries.Term.TheVariants.{Var, Ind}
use Rattle.dl_syntax.specs.declared.queries.Atom.{Atom}
use Rattle.dl_syntax.specs.declared.queries.Atom.TheVariants as atom
use Rattle.dl_syntax.specs.declared.queries.Cq.{Cq}

-- a term for each variable
abbrev pub Substitution : Type 0
Substitution = ℕ → Term

abbrev pub applied : Substitution → Term → Term
applied s (Var v) = s v
applied s (Ind i) = Ind i

abbrev pub applied_atom : Substitution → Atom → Atom
applied_atom s (atom.Concept c x) = atom.Concept c (applied s x)
applied_atom s (atom.Role p x y) = atom.Role p (applied s x) (applied s y)

abbrev pub applied_query : Substitution → Cq → Cq
applied_query s q = record { head = map (applied s) q.head; body = map (applied_atom s) q.body }

-- each variable of the list becomes its term, all at once, and the others stay
abbrev pub image_of : List (ℕ × Term) → Substitution
image_of [] v = Var v
image_of (pair ∷ pairs) v = if pair.0 == v then pair.1 else image_of pairs v

-- the substitution makes the atoms equal, and each other that does goes through it
pub record IsMostGeneral (s : Substitution) (a b : Atom) : Type 0 where
  pub same : applied_atom s a ≡ applied_atom s b
  pub general : (t : Substitution) → applied_atom t a ≡ applied_atom t b → (v : ℕ)
      → applied t (s v) ≡ t v

-- no substitution makes the atoms equal
pub record CannotUnify (a b : Atom) : Type 0 where
  pub none : (t : Substitution) → applied_atom t a ≡ applied_atom t b → ⊥
