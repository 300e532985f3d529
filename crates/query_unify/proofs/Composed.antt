-- Two most general bindings, one after the other, are most general for both pairs.
use Rattle.std.proofs.Common.{◌≡◌, ◌==◌, ℕ, Bool, true, false, cond, List, [], ◌∷◌, ◌++◌, refl, sym}
use Rattle.std.proofs.Common.{◌∙◌, ap, subst, arith}
use mathlib.Core.Path.{fun_ext}
use Rattle.std.specs.Prelude.{◌≢◌}
use Rattle.std.specs.List.{AllPairs}
use Rattle.std.proofs.lemmas.List.Elements.{All-nil, All-cons}
use Rattle.std.proofs.lemmas.List.Kept.{AllPairs-cons}
use Rattle.dl_syntax.specs.declared.queries.Atom.{Atom}
use Rattle.dl_syntax.specs.declared.queries.Term.{Term}
use Rattle.dl_syntax.specs.declared.queries.Term.TheVariants.{Var, Ind}
use Rattle.query_unify.specs.declared.unifier.Binding.{Binding}
use Rattle.query_unify.specs.declared.unifier.Binding.TheVariants.{Nothing, Bind}
use Rattle.query_unify.specs.declared.unifier.Bindings.{Bindings}
use Rattle.query_unify.specs.Substitution.{Substitution, applied, image_of, IsMostGeneral}
use Rattle.query_unify.specs.Bindings.{image, both_images, applied_binding, pairs_in, Binds}
use Rattle.query_unify.specs.Bindings.{UnifiesTerms, CannotUnifyTerms, UnifiesPairs}
use Rattle.query_unify.specs.Bindings.{CannotUnifyPairs}

-- a substitution that goes through another does so at each term
goes_through : (s t : ℕ → Term) → ((v : ℕ) → applied t (s v) ≡ t v) → (x : Term)
    → applied t (applied s x) ≡ applied t x
goes_through s t h (Var v) = h v
goes_through s t h (Ind k) = refl

applied-both_images : (s : Bindings) (x : Term)
    → applied (both_images s) x ≡ applied (image s.second) (applied (image s.first) x)
applied-both_images s (Var v) = refl
applied-both_images s (Ind k) = refl

pub UnifiesPairs-composed : (s : Bindings) (a b c d c' d' : Term) → UnifiesTerms (image s.first) a b
    → c' ≡ applied (image s.first) c → d' ≡ applied (image s.first) d
    → UnifiesTerms (image s.second) c' d' → UnifiesPairs (both_images s) a b c d
UnifiesPairs-composed s a b c d c' d' f e e' g = record {
  first = applied-both_images s a ∙ ap (applied (image s.second)) f.same ∙ sym
      (applied-both_images s b);
  second = applied-both_images s c ∙ ap (applied (image s.second)) (sym e) ∙ g.same ∙ ap
      (applied (image s.second)) e' ∙ sym (applied-both_images s d);
  general = λ t h k v.
      let through = f.general t h in
      let moved : applied t c' ≡ applied t d' =
      ap (applied t) e ∙ goes_through (image s.first) t through c ∙ k ∙ sym
      (goes_through (image s.first) t through d) ∙ ap (applied t) (sym e') in
      goes_through (image s.second) t (g.general t moved) (image s.first v) ∙ through v;
}

pub CannotUnifyPairs-second : (s : ℕ → Term) (a b c d c' d' : Term) → UnifiesTerms s a b
    → c' ≡ applied s c → d' ≡ applied s d → CannotUnifyTerms c' d' → CannotUnifyPairs a b c d
CannotUnifyPairs-second s a b c d c' d' f e e' g = record {
  none = λ t h k.
      g.none t (ap (applied t) e ∙ goes_through s t (f.general t h) c ∙ k ∙ sym
      (goes_through s t (f.general t h) d) ∙ ap (applied t) (sym e'));
}

one_pair : (binding : Binding) (v : ℕ) → image_of (pairs_in binding) v ≡ image binding v
one_pair Nothing v = refl
one_pair (Bind w t) v = refl

-- the pairs put in all at once do what the bindings do one after the other
pairs-image : (first second : Binding) (v : ℕ)
    → image_of (pairs_in (applied_binding (image second) first) ++ pairs_in second) v
    ≡ applied (image second) (image first v)
pairs-image Nothing second v = one_pair second v
pairs-image (Bind w t) second v = by (w == v)
  where
    by : (b : Bool) → cond b (applied (image second) t) (image_of (pairs_in second) v)
        ≡ applied (image second) (cond b t (Var v))
    by true = refl
    by false = one_pair second v

pub IsMostGeneral-pairs : (s : Bindings) (pairs : List (ℕ × Term)) (a b : Atom)
    → pairs ≡ pairs_in (applied_binding (image s.second) s.first) ++ pairs_in s.second
    → IsMostGeneral (both_images s) a b → IsMostGeneral (image_of pairs) a b
IsMostGeneral-pairs s pairs a b listed is =
    let same : both_images s ≡ image_of pairs =
    fun_ext (λ v. sym (pairs-image s.first s.second v) ∙ ap (λ (ps : List (ℕ × Term)).
    image_of ps v) (sym listed)) in
    subst (λ (t : Substitution). IsMostGeneral t a b) same is

-- no variable is listed twice
abbrev Apart : List (ℕ × Term) → Type 0
Apart pairs = AllPairs (λ (p r : ℕ × Term). p.0 ≢ r.0) pairs

apart_none : Apart []
apart_none = λ i j d before within. absurd (omega arith)

apart_one : (pair : ℕ × Term) → Apart (pair ∷ [])
apart_one pair = AllPairs-cons (λ (p r : ℕ × Term).
    p.0 ≢ r.0) pair [] (All-nil (λ (r : ℕ × Term). pair.0 ≢ r.0)) apart_none

apart_two : (first second : Binding) → ((v : ℕ) → Binds first v → Binds second v → ⊥)
    → Apart (pairs_in (applied_binding (image second) first) ++ pairs_in second)
apart_two Nothing Nothing apart = apart_none
apart_two Nothing (Bind w u) apart = apart_one (w, u)
apart_two (Bind v t) Nothing apart = apart_one (v, applied (image Nothing) t)
apart_two (Bind v t) (Bind w u) apart =
    AllPairs-cons (λ (p r : ℕ × Term). p.0 ≢ r.0) (v, applied (image (Bind w u)) t) ((w, u) ∷ [])
    (All-cons (λ (r : ℕ × Term). v ≢ r.0) (w, u) [] (λ same.
    apart w same refl) (All-nil (λ (r : ℕ × Term). v ≢ r.0))) (apart_one (w, u))

pub pairs-apart : (s : Bindings) (pairs : List (ℕ × Term))
    → pairs ≡ pairs_in (applied_binding (image s.second) s.first) ++ pairs_in s.second
    → ((v : ℕ) → Binds s.first v → Binds s.second v → ⊥)
    → AllPairs (λ (p r : ℕ × Term). p.0 ≢ r.0) pairs
pairs-apart s pairs listed apart = subst Apart (sym listed) (apart_two s.first s.second apart)
