-- What at most two bindings of variables, one after the other, mean.
use Rattle.std.specs.Prelude.{◌≡◌, ◌==◌, ℕ, if◌then◌else◌, List, [], ◌∷◌}
use Rattle.dl_syntax.specs.declared.queries.Term.{Term}
use Rattle.dl_syntax.specs.declared.queries.Term.TheVariants.{Var}
use Rattle.query_unify.specs.declared.unifier.Binding.{Binding}
use Rattle.query_unify.specs.declared.unifier.Binding.TheVariants.{Nothing, Bind}
use Rattle.query_unify.specs.declared.unifier.Bindings.{Bindings}
use Rattle.query_unify.specs.Substitution.{Substitution, applied}

-- what a binding sends a variable to
abbrev pub image : Binding → Substitution
image Nothing v = Var v
image (Bind w t) v = if w == v then t else Var v

-- what two bindings, one after the other, send a variable to
abbrev pub both_images : Bindings → Substitution
both_images s v = applied (image s.second) (image s.first v)

-- the binding has a term for the variable
abbrev pub Binds : Binding → ℕ → Type 0
Binds Nothing v = ⊥
Binds (Bind w t) v = w ≡ v

-- the binding with its term substituted
abbrev pub applied_binding : Substitution → Binding → Binding
applied_binding s Nothing = Nothing
applied_binding s (Bind v t) = Bind v (applied s t)

-- the variable of the binding with its term
abbrev pub pairs_in : Binding → List (ℕ × Term)
pairs_in Nothing = []
pairs_in (Bind v t) = (v, t) ∷ []

-- the substitution makes the terms equal, and each other that does goes through it
pub record UnifiesTerms (s : Substitution) (x y : Term) : Type 0 where
  pub same : applied s x ≡ applied s y
  pub general : (t : Substitution) → applied t x ≡ applied t y → (v : ℕ) → applied t (s v) ≡ t v

pub record CannotUnifyTerms (x y : Term) : Type 0 where
  pub none : (t : Substitution) → applied t x ≡ applied t y → ⊥

-- the same of two pairs, the first two terms and the last two
pub record UnifiesPairs (s : Substitution) (a b c d : Term) : Type 0 where
  pub first : applied s a ≡ applied s b
  pub second : applied s c ≡ applied s d
  pub general : (t : Substitution) → applied t a ≡ applied t b → applied t c ≡ applied t d → (v : ℕ)
      → applied t (s v) ≡ t v

pub record CannotUnifyPairs (a b c d : Term) : Type 0 where
  pub none : (t : Substitution) → applied t a ≡ applied t b → applied t c ≡ applied t d → ⊥
