-- Terms that are said one after the other.
use Rattle.std.proofs.Common.{◌≡◌, ℕ, ◌+◌, ◌≤◌, ◌<◌, List, [], ◌∷◌, ◌++◌, length, drop, get_or}
use Rattle.std.proofs.Common.{refl, sym, ap, ◌∙◌, add-one, drop-cons, map, append_assoc}
use Rattle.std.proofs.Common.{append-nil, Ok, Err}
use Rattle.std.proofs.lemmas.List.{drop_all, map-append}
use Rattle.owl_reader.specs.declared.entities.SayFault.{SayFault}
use Rattle.owl_reader.specs.declared.entities.SayFault.TheVariants as fault_of
use Rattle.owl_reader.specs.Statements.{Said, ◌>>=◌, Term, all_said}
use Rattle.owl_reader.specs.StatementViews.{Says}

-- what was said before, and what is still said
abbrev pub behind : List Term → Said (List Term) → Said (List Term)
behind front later = later >>= (λ terms. Ok (front ++ terms))

pub behind_nothing : (r : Said (List Term)) → r ≡ behind [] r
behind_nothing (Ok x) = refl
behind_nothing (Err e) = refl

moved : (front : List Term) (x : Term) (later : Said (List Term))
    → behind front (later >>= (λ terms. Ok (x ∷ terms))) ≡ behind (front ++ x ∷ []) later
moved front x (Ok terms) = ap Ok (sym (append_assoc front (x ∷ []) terms))
moved front x (Err e) = refl

abbrev pub then_more : Said Term → Said (List Term) → Said (List Term)
then_more first later = first >>= (λ x. later >>= (λ terms. Ok (x ∷ terms)))

module _ {E X : Type 0} (see : E → X) (one : X → Said Term) (xs : List E) where
  next : (place : ℕ) (d : E) → place < length xs
      → all_said one (map see (drop place xs))
      ≡ then_more (one (see (get_or xs place d))) (all_said one (map see (drop (place + 1) xs)))
  unfolding all_said
  next place d lt = ap (λ (ys : List E). all_said one (map see ys))
      (drop-cons xs place d lt) ∙ rw add-one refl

  pub said_next : {T : Type 0} (seen : T
      → Term) (front new : List T) (x : T) (whole : Said (List Term)) (place : ℕ) (d : E)
      → new ≡ front ++ x ∷ [] → place < length xs → one (see (get_or xs place d)) ≡ Ok (seen x)
      → whole ≡ behind (map seen front) (all_said one (map see (drop place xs)))
      → whole ≡ behind (map seen new) (all_said one (map see (drop (place + 1) xs)))
  said_next seen front new x whole place d grown lt is before =
      let later = all_said one (map see (drop (place + 1) xs)) in
      before
      ∙ ap (behind (map seen front)) (next place d lt ∙ ap (λ (first : Said Term).
      then_more first later) is)
      ∙ moved (map seen front) (seen x) later
      ∙ ap (λ (terms : List Term). behind terms later)
      (sym (ap (map seen) grown ∙ map-append seen front (x ∷ [])))

  pub said_fails : {F G : Type 0} (front : List Term) (whole : Said (List Term)) (place : ℕ) (d : E)
      (fault : SayFault) (first_seen : F → Term) (seen : G → List Term) → place < length xs
      → Says {X = F} (Err fault) (one (see (get_or xs place d))) first_seen
      → whole ≡ behind front (all_said one (map see (drop place xs)))
      → Says {X = G} (Err fault) whole seen
  said_fails front whole place d (fault_of.Flaw at flaw) first_seen seen lt is before =
      before ∙ ap (behind front) (next place d lt ∙ ap (λ (first : Said Term).
      then_more first (all_said one (map see (drop (place + 1) xs)))) is)
  said_fails front whole place d fault_of.Memory first_seen seen lt is before = tt

  pub said_end : (front : List Term) (place : ℕ) → length xs ≤ place
      → behind front (all_said one (map see (drop place xs))) ≡ Ok front
  unfolding all_said
  said_end front place le = ap (λ (ys : List E).
      behind front (all_said one (map see ys))) (drop_all place xs le) ∙ ap Ok (append-nil front)
