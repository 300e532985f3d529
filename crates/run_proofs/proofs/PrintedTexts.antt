-- The texts of a list, one after the other.
use Rattle.std.proofs.Common.{◌≡◌, ℕ, ◌+◌, ◌<◌, ◌≤◌, List, [], ◌∷◌, ◌++◌, length, get_or, take, sym}
use Rattle.std.proofs.Common.{◌∙◌, ap, append_assoc}
use Rattle.std.specs.Prelude.{flat_map}
use Rattle.std.proofs.lemmas.Grind.{flat_map-append}
use Rattle.std.proofs.lemmas.List.{append-nil, take_more, take_all}

-- one text more
pub flat_more : {X : Type 0} (f : X → List ℕ) (xs : List X) (k : ℕ) (d : X)
    (first out next : List ℕ)
    → k < length xs → out ≡ first ++ flat_map f (take k xs) → next ≡ out ++ f (get_or xs k d)
    → next ≡ first ++ flat_map f (take (k + 1) xs)
flat_more {X} f xs k d first out next within so_far grown =
    let x : X = get_or xs k d in
    let one : flat_map f (x ∷ []) ≡ f x = append-nil (f x) in
    grown
    ∙ ap (λ (o : List ℕ). o ++ f x) so_far
    ∙ append_assoc first (flat_map f (take k xs)) (f x)
    ∙ ap (λ (ys : List ℕ). first ++ (flat_map f (take k xs) ++ ys)) (sym one)
    ∙ ap (λ (ys : List ℕ). first ++ ys) (sym (flat_map-append f (take k xs) (x ∷ [])))
    ∙ ap (λ (ys : List X). first ++ flat_map f ys) (sym (take_more xs k d within))

pub flat_all : {X : Type 0} (f : X → List ℕ) (xs : List X) (k : ℕ) (first out : List ℕ)
    → length xs ≤ k → out ≡ first ++ flat_map f (take k xs) → out ≡ first ++ flat_map f xs
flat_all {X} f xs k first out past so_far =
    so_far ∙ ap (λ (ys : List X). first ++ flat_map f ys) (take_all k xs past)

-- a text behind a space
pub spaced : (out mid next text : List ℕ) → mid ≡ out ++ 32 ∷ [] → next ≡ mid ++ text
    → next ≡ out ++ 32 ∷ text
spaced out mid next text space rest =
    rest ∙ ap (λ (m : List ℕ). m ++ text) space ∙ append_assoc out (32 ∷ []) text

-- a text before a newline
pub ended : (out mid next text : List ℕ) → mid ≡ out ++ text → next ≡ mid ++ 10 ∷ []
    → next ≡ out ++ (text ++ 10 ∷ [])
ended out mid next text first rest =
    rest ∙ ap (λ (m : List ℕ). m ++ 10 ∷ []) first ∙ append_assoc out text (10 ∷ [])
