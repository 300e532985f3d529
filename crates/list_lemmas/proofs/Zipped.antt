-- Two lists that stand in a relation place by place.
use Rattle.std.proofs.Common.{◌≡◌, ℕ, zero, suc, ◌<◌, ◌+◌, List, [], ◌∷◌, ◌++◌, get_or, take}
use Rattle.std.proofs.Common.{length, refl, sym, ap, subst, ◌≤◌, append-nil}
use Rattle.std.specs.Prelude.{Some, slice_get}
use Rattle.std.specs.List.{All, AllZip}
use Rattle.std.proofs.lemmas.List.Elements.{All-nil, All-cons, All-head, All-tail}
use Rattle.std.proofs.lemmas.List.{take_more, take_all}

-- what stands at a place of the second list has its partner at that place of the first
pub AllZip-right : {A B : Type 0} (R : A → B → Type 0) (xs : List A) (ys : List B) (k : ℕ) (y : B)
    → AllZip R xs ys → slice_get ys k ≡ Some y → (x : A) × (slice_get xs k ≡ Some x) × R x y
AllZip-right R [] [] k y zipped at = absurd (cc)
AllZip-right R [] (w ∷ ys) k y zipped at = absurd zipped
AllZip-right R (x ∷ xs) [] k y zipped at = absurd zipped
AllZip-right R (x ∷ xs) (w ∷ ys) zero y zipped at = let same : w ≡ y = cc in
    (x, refl, subst (R x) same zipped.0)
AllZip-right R (x ∷ xs) (w ∷ ys) (suc k) y zipped at = AllZip-right R xs ys k y zipped.1 at

-- what stands at a place of the first list has its partner at that place of the second
pub AllZip-left : {A B : Type 0} (R : A → B → Type 0) (xs : List A) (ys : List B) (k : ℕ) (x : A)
    → AllZip R xs ys → slice_get xs k ≡ Some x → (y : B) × (slice_get ys k ≡ Some y) × R x y
AllZip-left R [] [] k x zipped at = absurd (cc)
AllZip-left R [] (w ∷ ys) k x zipped at = absurd zipped
AllZip-left R (v ∷ xs) [] k x zipped at = absurd zipped
AllZip-left R (v ∷ xs) (y ∷ ys) zero x zipped at = let same : v ≡ x = cc in
    (y, refl, subst (λ z. R z y) same zipped.0)
AllZip-left R (v ∷ xs) (y ∷ ys) (suc k) x zipped at = AllZip-left R xs ys k x zipped.1 at

-- one more pair at the end
pub AllZip-added : {A B : Type 0} (R : A → B → Type 0) (xs : List A) (ys : List B) (x : A) (y : B)
    → AllZip R xs ys → R x y → AllZip R (xs ++ x ∷ []) (ys ++ y ∷ [])
AllZip-added R [] [] x y zipped last = (last, tt)
AllZip-added R [] (w ∷ ys) x y zipped last = absurd zipped
AllZip-added R (v ∷ xs) [] x y zipped last = absurd zipped
AllZip-added R (v ∷ xs) (w ∷ ys) x y zipped last =
    (zipped.0, AllZip-added R xs ys x y zipped.1 last)

-- two lists with two further ones behind them
pub AllZip-joined : {A B : Type 0} (R : A → B → Type 0) (xs xs' : List A) (ys ys' : List B)
    → AllZip R xs ys → AllZip R xs' ys' → AllZip R (xs ++ xs') (ys ++ ys')
AllZip-joined R [] xs' [] ys' zipped later = later
AllZip-joined R [] xs' (w ∷ ys) ys' zipped later = absurd zipped
AllZip-joined R (v ∷ xs) xs' [] ys' zipped later = absurd zipped
AllZip-joined R (v ∷ xs) xs' (w ∷ ys) ys' zipped later =
    (zipped.0, AllZip-joined R xs xs' ys ys' zipped.1 later)

-- the step of a loop over the first list that pushes onto the second
pub AllZip-next : {A B : Type 0} (R : A → B
    → Type 0) (xs : List A) (ys new : List B) (k : ℕ) (d : A) (y : B) → k < length xs
    → AllZip R (take k xs) ys → R (get_or xs k d) y → new ≡ ys ++ y ∷ []
    → AllZip R (take (k + 1) xs) new
AllZip-next R xs ys new k d y within before last same =
    rw (same, take_more xs k d within) (AllZip-added R (take k xs) ys (get_or xs k d) y before last)

-- what holds of all of the first list, with the relation, makes another relation
pub AllZip-combined : {A B : Type 0} (P : A → Type 0) (R S : A → B → Type 0)
    → ((x : A) (y : B) → P x → R x y → S x y) → (xs : List A) (ys : List B) → All P xs
    → AllZip R xs ys → AllZip S xs ys
AllZip-combined P R S make [] [] all zipped = tt
AllZip-combined P R S make [] (y ∷ ys) all zipped = absurd zipped
AllZip-combined P R S make (x ∷ xs) [] all zipped = absurd zipped
AllZip-combined P R S make (x ∷ xs) (y ∷ ys) all zipped = (
  make x y (All-head P x xs all) zipped.0,
  AllZip-combined P R S make xs ys (All-tail P x xs all)
      zipped.1,
)

-- such lists are equally long
pub AllZip-length : {A B : Type 0} (R : A → B → Type 0) (xs : List A) (ys : List B) → AllZip R xs ys
    → length xs ≡ length ys
AllZip-length R [] [] zipped = refl
AllZip-length R [] (y ∷ ys) zipped = absurd zipped
AllZip-length R (x ∷ xs) [] zipped = absurd zipped
AllZip-length R (x ∷ xs) (y ∷ ys) zipped = ap suc (AllZip-length R xs ys zipped.1)

-- what the relation tells of the second of each pair holds of all of the second list
pub AllZip-all : {A B : Type 0} (R : A → B → Type 0) (P : B → Type 0)
    → ((x : A) (y : B) → R x y → P y) → (xs : List A) (ys : List B) → AllZip R xs ys → All P ys
AllZip-all R P make [] [] zipped = All-nil P
AllZip-all R P make [] (y ∷ ys) zipped = absurd zipped
AllZip-all R P make (x ∷ xs) [] zipped = All-nil P
AllZip-all R P make (x ∷ xs) (y ∷ ys) zipped =
    All-cons P y ys (make x y zipped.0) (AllZip-all R P make xs ys zipped.1)

-- a front that is as long as the list is all of it
pub AllZip-taken : {A B : Type 0} (R : A → B → Type 0) (xs : List A) (ys : List B) (k : ℕ)
    → length xs ≤ k → AllZip R (take k xs) ys → AllZip R xs ys
AllZip-taken {A} R xs ys k long zipped =
    subst (λ (zs : List A). AllZip R zs ys) (take_all k xs long) zipped

-- a relation that follows from the relation
pub AllZip-weaker : {A B : Type 0} (R S : A → B → Type 0) → ((x : A) (y : B) → R x y → S x y)
    → (xs : List A) (ys : List B) → AllZip R xs ys → AllZip S xs ys
AllZip-weaker R S make [] [] zipped = tt
AllZip-weaker R S make [] (y ∷ ys) zipped = absurd zipped
AllZip-weaker R S make (x ∷ xs) [] zipped = absurd zipped
AllZip-weaker R S make (x ∷ xs) (y ∷ ys) zipped =
    (make x y zipped.0, AllZip-weaker R S make xs ys zipped.1)

-- nothing more behind the first list
pub AllZip-append_nothing : {A B : Type 0} (R : A → B → Type 0) (front : List A) (none : List A)
    (ys : List B) → none ≡ [] → AllZip R front ys → AllZip R (front ++ none) ys
AllZip-append_nothing {A} R front none ys is zipped =
    rw is (subst (λ (zs : List A). AllZip R zs ys) (sym (append-nil front)) zipped)
