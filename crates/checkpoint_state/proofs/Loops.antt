-- Steps of loops over what is kept.
use Rattle.std.proofs.Common.{◌≡◌, ℕ, zero, suc, ◌+◌, ◌-◌, ◌^◌, ◌<◌, ◌≤◌, true, false, List, []}
use Rattle.std.proofs.Common.{◌∷◌, ◌++◌, length, take, drop, get_or, refl, sym, ◌∙◌, ap, subst}
use Rattle.std.proofs.Common.{arith}
use Rattle.std.proofs.Common.{inl, inr}
use Rattle.std.specs.Prelude.{◌⊎◌, ◌≢◌, All, Some, flat_map, slice_get}
use Rattle.std.specs.List.{AllZip}
use Rattle.std.proofs.lemmas.Bool.Decides.{eqb_tells}
use Rattle.std.proofs.lemmas.List.{get_or-drop, length-drop, take_more}
use Rattle.std.proofs.lemmas.Option.{get_or_from_slice_get, slice_get_within}
use Rattle.list_lemmas.proofs.Elements.{All-back, All-front}
use Rattle.formula_store.specs.Interned.{AreDistinct}
use Rattle.answer_tables.specs.Table.{Antichains}
use Rattle.checkpoint_text.specs.declared.checkpoint.Stretch.{Stretch}
use Rattle.checkpoint_text.specs.Suspended.{NodeLists}
use Rattle.checkpoint_state.specs.Suspending.{node_of, nodes_of, stretch_of}
use Rattle.checkpoint_state.proofs.Interning.{number_there}
use Rattle.checkpoint_state.proofs.Ordering.{has_none, nodes_none, nodes_some}

-- what holds of all that elements give holds of what one gives
pub flat_at : {A B : Type 0} (P : B → Type 0) (f : A → List B) (xs : List A) (i : ℕ) (x : A)
    → i < length xs → x ≡ get_or xs i x → All P (flat_map f xs) → All P (f x)
flat_at P f [] i x within is all = absurd (omega (arith, within))
flat_at {A} P f (y ∷ xs) zero x within is all =
    subst (λ (z : A). All P (f z)) (sym is) (All-front P (f y) (flat_map f xs) all)
flat_at P f (y ∷ xs) (suc i) x within is all =
    flat_at P f xs i x (omega (arith, within)) is (All-back P (f y) (flat_map f xs) all)

-- the stretch with a list's place
abbrev pub made : ℕ → ℕ → Stretch
made count list = record { count = count; list = list }

pub stretch_made : (lists : List (List ℕ)) (run : ℕ × List ℕ) (n : ℕ) → AreDistinct lists
    → slice_get lists n ≡ Some run.1 → made run.0 n ≡ stretch_of lists run
stretch_made lists run n distinct at =
    ap (made run.0) (sym (number_there lists n run.1 distinct at))

nodes_append : (lists : List (List ℕ)) (xs ys : List (ℕ × Antichains))
    → nodes_of lists (xs ++ ys) ≡ nodes_of lists xs ++ nodes_of lists ys
nodes_append lists [] ys = refl
nodes_append lists (e ∷ xs) ys =
    go (eqb_tells (e.1.slots ^ e.1.arity) 0) (nodes_append lists xs ys)
  where
    go : ((has_none e ≡ true) × (e.1.slots ^ e.1.arity ≡ 0))
        ⊎ ((has_none e ≡ false) × (e.1.slots ^ e.1.arity ≢ 0))
        → nodes_of lists (xs ++ ys) ≡ nodes_of lists xs ++ nodes_of lists ys
        → nodes_of lists (e ∷ (xs ++ ys)) ≡ nodes_of lists (e ∷ xs) ++ nodes_of lists ys
    go (inl none) rest =
        nodes_none lists e (xs ++ ys) none.0 ∙ rest
        ∙ ap (λ (ns : List NodeLists). ns ++ nodes_of lists ys) (sym (nodes_none lists e xs none.0))
    go (inr some) rest =
        nodes_some lists e (xs ++ ys) some.0
        ∙ ap (λ (ns : List NodeLists). node_of lists e ∷ ns) rest
        ∙ ap (λ (ns : List NodeLists). ns ++ nodes_of lists ys) (sym (nodes_some lists e xs some.0))

-- one table more
pub nodes_next : (lists : List (List ℕ)) (entries : List (ℕ × Antichains)) (i : ℕ)
    (e : ℕ × Antichains) (old new : List NodeLists) → i < length entries → e ≡ get_or entries i e
    → old ≡ nodes_of lists (take i entries) → new ≡ old ++ nodes_of lists (e ∷ [])
    → new ≡ nodes_of lists (take (i + 1) entries)
nodes_next lists entries i e old new within is before last =
    last ∙ ap (λ (ns : List NodeLists). ns ++ nodes_of lists (e ∷ [])) before
    ∙ sym (nodes_append lists (take i entries) (e ∷ []))
    ∙ ap (nodes_of lists) (sym (take_more entries i e within
    ∙ ap (λ (x : ℕ × Antichains). take i entries ++ x ∷ []) (sym is)))

-- one name more
pub name_next : (xs : List (List ℕ)) (first number : ℕ) (name : List ℕ) (old new : List (List ℕ))
    → first ≤ number → slice_get xs number ≡ Some name → old ≡ take (number - first) (drop first xs)
    → new ≡ old ++ name ∷ [] → new ≡ take (number + 1 - first) (drop first xs)
name_next xs first number name old new later at before last =
    let i : ℕ = number - first in
    let within : i < length (drop first xs) =
    omega (arith, slice_get_within xs number name at, length-drop first xs, later) in
    let same : first + i ≡ number = omega (arith, later) in
    let there : get_or (drop first xs) i name ≡ name =
    get_or-drop first xs i name ∙ ap (λ (n : ℕ). get_or xs n name) same
    ∙ get_or_from_slice_get xs number name name at in
    last ∙ ap (λ (l : List (List ℕ)). l ++ name ∷ []) before
    ∙ ap (λ (x : List ℕ). take i (drop first xs) ++ x ∷ []) (sym there)
    ∙ sym (take_more (drop first xs) i name within)
    ∙ ap (λ (n : ℕ). take n (drop first xs)) (omega (arith, later))

-- what stands at one place of two lists that stand in a relation
pub zipped_at : {A B : Type 0} (R : A → B → Type 0) (xs : List A) (ys : List B) (i : ℕ) (x : A)
    (y : B) → i < length xs → x ≡ get_or xs i x → y ≡ get_or ys i y → AllZip R xs ys → R x y
zipped_at R [] ys i x y within x_is y_is zipped = absurd (omega (arith, within))
zipped_at R (v ∷ xs) [] i x y within x_is y_is zipped = absurd zipped
zipped_at {A} {B} R (v ∷ xs) (w ∷ ys) zero x y within x_is y_is zipped =
    subst (λ (a : A). R a y) (sym x_is) (subst (λ (b : B). R v b) (sym y_is) zipped.0)
zipped_at R (v ∷ xs) (w ∷ ys) (suc i) x y within x_is y_is zipped =
    zipped_at R xs ys i x y (omega (arith, within)) x_is y_is zipped.1
