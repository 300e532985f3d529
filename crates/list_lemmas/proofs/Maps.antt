-- Lists mapped once and twice, by maps that are alike, and what they contain.
use Rattle.std.proofs.Common.{◌≡◌, List, [], ◌∷◌, map, refl, ◌∙◌, ap, subst, inl, inr}
use Rattle.std.specs.List.{All, Contains}
use Rattle.std.proofs.lemmas.List.Elements.{All-nil, All-cons, All-head, All-tail}
use Rattle.list_lemmas.proofs.Elements.{Contains-none, Contains-first, Contains-later}
use Rattle.list_lemmas.proofs.Elements.{Contains-cons_cases, All-from_contains}

-- a mapped list contains the image of each element
pub Contains-map : {X Y : Type 0} (g : X → Y) (xs : List X) (x : X) → Contains xs x
    → Contains (map g xs) (g x)
Contains-map g [] x there = absurd (Contains-none x there)
Contains-map g (y ∷ xs) x there = elim (Contains-cons_cases y xs x there) [
  | inl same ↦ subst (λ (z : _). Contains (g y ∷ map g xs) (g z)) same
      (Contains-first (g y) (map g xs))
  | inr later ↦ Contains-later (g y) (map g xs) (g x) (Contains-map g xs x later)
]

-- and nothing but images
pub Contains-from_map : {X Y : Type 0} (g : X → Y) (xs : List X) (y : Y) → Contains (map g xs) y
    → (x : X) × Contains xs x × (g x ≡ y)
Contains-from_map g [] y there = absurd (Contains-none y there)
Contains-from_map {X} g (x ∷ xs) y there =
    elim (Contains-cons_cases (g x) (map g xs) y there) [
      | inl same ↦ (x, Contains-first x xs, same)
      | inr later ↦ let found : (z : X) × Contains xs z × (g z ≡ y) =
          Contains-from_map g xs y later in
          (found.0, Contains-later x xs found.0 found.1, found.2)
    ]

-- what holds of all images holds of the image of each element
pub All-unmap : {X Y : Type 0} (P : Y → Type 0) (f : X → Y) (xs : List X) → All P (map f xs)
    → All (λ x. P (f x)) xs
All-unmap P f [] all = All-nil (λ x. P (f x))
All-unmap P f (x ∷ xs) all =
    All-cons (λ y. P (f y)) x xs (All-head P (f x) (map f xs) all)
    (All-unmap P f xs (All-tail P (f x) (map f xs) all))

-- maps that agree on all elements give one list
pub map_alike : {X Y : Type 0} (f g : X → Y) (xs : List X) → All (λ x. f x ≡ g x) xs
    → map f xs ≡ map g xs
map_alike f g [] all = refl
map_alike {X} {Y} f g (x ∷ xs) all =
    ap (λ (y : Y). y ∷ map f xs) (All-head (λ (z : X). f z ≡ g z) x xs all)
    ∙ ap (λ (ys : List Y). g x ∷ ys) (map_alike f g xs (All-tail (λ (z : X). f z ≡ g z) x xs all))

-- maps that agree on each contained element give one list
pub map_same : {X Y : Type 0} (f g : X → Y) (xs : List X) → ((x : X) → Contains xs x → f x ≡ g x)
    → map f xs ≡ map g xs
map_same f g xs each = map_alike f g xs (All-from_contains (λ x. f x ≡ g x) xs each)

-- a list mapped twice is mapped once by a map that agrees with both on all elements
pub map_twice : {X Y Z : Type 0} (g : Y → Z) (f : X → Y) (h : X → Z) (xs : List X)
    → All (λ x. g (f x) ≡ h x) xs → map g (map f xs) ≡ map h xs
map_twice g f h [] all = refl
map_twice {X} {Y} {Z} g f h (x ∷ xs) all =
    ap (λ (z : Z). z ∷ map g (map f xs)) (All-head (λ (y : X). g (f y) ≡ h y) x xs all)
    ∙ ap (λ (zs : List Z). h x ∷ zs)
    (map_twice g f h xs (All-tail (λ (y : X). g (f y) ≡ h y) x xs all))

-- or everywhere
pub map_both : {X Y Z : Type 0} (g : Y → Z) (f : X → Y) (h : X → Z) → ((x : X) → g (f x) ≡ h x)
    → (xs : List X) → map g (map f xs) ≡ map h xs
map_both g f h each xs =
    map_twice g f h xs (All-from_contains (λ x. g (f x) ≡ h x) xs (λ x there. each x))
