-- Which known facts serve.
use Rattle.std.proofs.Common.{◌≡◌, ℕ, ◌+◌, ◌<◌, List, [], ◌∷◌, ◌++◌, length, get_or, take}
use Rattle.std.proofs.Common.{subst, sym}
use Rattle.std.proofs.Common.{inl, inr}
use Rattle.std.specs.Prelude.{Option, Some, None, MatchOption}
use Rattle.std.specs.List.{Contains}
use Rattle.std.proofs.lemmas.List.{take_more}
use Rattle.std.proofs.lemmas.List.Elements.{Contains-push_cases}
use Rattle.dl_syntax.specs.declared.facts.Element.{Element}
use Rattle.dl_syntax.specs.declared.facts.Fact.{Fact}
use Rattle.dl_syntax.specs.declared.ontology.Inclusion.{Inclusion}
use Rattle.dl_syntax.specs.declared.queries.Cq.{Cq}
use Rattle.dl_syntax.specs.Chase.{made_by}
use Rattle.query_unify.specs.Laws.{Gives}
use Rattle.proof_search.specs.Serving.{ServesBy}

module _ (known : List Fact) (null : ℕ) (elements : List Element) (i : Inclusion) (q : Cq) where
  -- what is made of the fact, and whether it serves
  pub serves_by : (f : Fact) (made : Option Fact) → Contains known f
      → MatchOption made (made_by i f null ≡ []) (λ g. made_by i f null ≡ g ∷ [])
      → MatchOption made ⊥ (λ g. Gives q (known ++ g ∷ []) elements)
      → (g : Fact) × ServesBy known null elements i q f g
  serves_by f None there none gives = absurd gives
  serves_by f (Some g) there makes gives =
      (g, record { there = there; makes = makes; gives = gives })

  not_by : (f : Fact) (made : Option Fact)
      → MatchOption made (made_by i f null ≡ []) (λ g. made_by i f null ≡ g ∷ [])
      → (MatchOption made ⊥ (λ g. Gives q (known ++ g ∷ []) elements) → ⊥)
      → (g : Fact) → ServesBy known null elements i q f g → ⊥
  not_by f None none not g s = let m : made_by i f null ≡ g ∷ [] = s.makes in absurd (cc)
  not_by f (Some h) makes not g s =
      let m : made_by i f null ≡ g ∷ [] = s.makes in
      let same : g ≡ h = cc in
      not (subst (λ (x : Fact). Gives q (known ++ x ∷ []) elements) same s.gives)

  -- one fact more that doesn't
  pub none_more : (k : ℕ) (d : Fact) (made : Option Fact) → k < length known
      → ((f g : Fact) → Contains (take k known) f → ServesBy known null elements i q f g → ⊥)
      → MatchOption made (made_by i (get_or known k d) null ≡ [])
      (λ g. made_by i (get_or known k d) null ≡ g ∷ [])
      → (MatchOption made ⊥ (λ g. Gives q (known ++ g ∷ []) elements) → ⊥)
      → (f g : Fact) → Contains (take (k + 1) known) f → ServesBy known null elements i q f g → ⊥
  none_more k d made within before makes not f g there s =
      elim (Contains-push_cases (take k known) (get_or known k d) f
      (subst (λ (xs : List Fact). Contains xs f) (take_more known k d within) there)) [
        | inl early ↦ before f g early s
        | inr same ↦ not_by (get_or known k d) made makes not g
            (subst (λ (x : Fact). ServesBy known null elements i q x g) (sym same) s)
      ]
