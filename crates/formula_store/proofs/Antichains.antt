-- A list of antichains, and the antichain that is looked for in it.
use Rattle.std.proofs.Common.{◌≡◌, ℕ, zero, suc, ◌+◌, Bool, true, false, cond, List, [], ◌∷◌, ◌++◌}
use Rattle.std.proofs.Common.{length, get_or, refl, sym, ◌∙◌, ap, subst, arith, inl, inr, nat_eq}
use Rattle.std.specs.Prelude.{◌≢◌, ◌⊎◌, All, Option, Some, None, MatchOption, slice_get}
use Rattle.std.specs.Option.{is_some}
use Rattle.std.specs.List.{Contains, list_any, position, find, sum_by}
use Rattle.std.specs.Cmp.Lexicographic.{same_text, told_text, pointwise}
use Rattle.std.proofs.lemmas.Bool.{true≢false}
use Rattle.std.proofs.lemmas.List.Quantifiers.{position-Some}
use Rattle.std.proofs.lemmas.List.Elements.{All-push}
use Rattle.std.proofs.lemmas.List.Sums.{sum_by-append}
use Rattle.std.proofs.lemmas.Option.{slice_get-get_or, get_or_from_slice_get, none-some}
use Rattle.antichains.specs.Antichain.{IsAntichain}
use Rattle.formula_store.specs.Interned.{interned}

abbrev pub is_antichain : List ℕ → List ℕ → Bool
is_antichain antichain other = pointwise nat_eq antichain other

abbrev pub Tested : List ℕ → List ℕ → Type 0
Tested antichain other = ((is_antichain antichain other ≡ true) × (antichain ≡ other))
    ⊎ ((is_antichain antichain other ≡ false) × (antichain ≢ other))

pub tested : (antichain other : List ℕ) → Tested antichain other
tested antichain other = go (is_antichain antichain other) refl
  where
    go : (b : Bool) → b ≡ is_antichain antichain other → Tested antichain other
    go true same = inl (sym same, told_text antichain other true same)
    go false same = inr (sym same, told_text antichain other false same)

pub any_antichain : (antichain : List ℕ) (antichains : List (List ℕ)) (place : ℕ)
    → slice_get antichains place ≡ Some antichain
    → list_any (is_antichain antichain) antichains ≡ true
any_antichain antichain [] place at = absurd (none-some antichain at)
any_antichain antichain (x ∷ antichains) zero at = go (tested antichain x)
  where
    go : Tested antichain x → list_any (is_antichain antichain) (x ∷ antichains) ≡ true
    go (inl is) = rw is.0 refl
    go (inr other) =
        absurd (other.1 (sym (get_or_from_slice_get (x ∷ antichains) zero antichain x at)))
any_antichain antichain (x ∷ antichains) (suc place) at =
    go (tested antichain x) (any_antichain antichain antichains place at)
  where
    go : Tested antichain x → list_any (is_antichain antichain) antichains ≡ true
        → list_any (is_antichain antichain) (x ∷ antichains) ≡ true
    go (inl is) later = rw is.0 refl
    go (inr other) later = rw other.0 later

pub antichain_found : (antichain : List ℕ) (antichains : List (List ℕ)) (place : ℕ)
    → position (is_antichain antichain) antichains ≡ Some place
    → slice_get antichains place ≡ Some antichain
antichain_found antichain antichains place at =
    let found = position-Some (is_antichain antichain) antichains place antichain at in
    let same : antichain ≡ get_or antichains place antichain =
    same_text antichain (get_or antichains place antichain) (sym found.1) in
    slice_get-get_or antichains place antichain found.0 ∙ ap Some (sym same)

-- a antichain that is there changes nothing
pub interned-there : (antichain : List ℕ) (antichains : List (List ℕ)) (place : ℕ)
    → slice_get antichains place ≡ Some antichain → interned antichains antichain ≡ antichains
interned-there antichain antichains place at =
    ap (λ (b : Bool). cond b antichains (antichains ++ antichain ∷ []))
    (any_antichain antichain antichains place at)

-- a antichain keeps its place
pub slice_get-grown : (antichains more : List (List ℕ)) (place : ℕ) (antichain : List ℕ)
    → slice_get antichains place ≡ Some antichain
    → slice_get (antichains ++ more) place ≡ Some antichain
slice_get-grown [] more place antichain at = absurd (none-some antichain at)
slice_get-grown (x ∷ antichains) more zero antichain at = at
slice_get-grown (x ∷ antichains) more (suc place) antichain at =
    slice_get-grown antichains more place antichain at

pub slice_get-interned : (antichains : List (List ℕ)) (one : List ℕ) (place : ℕ)
    (antichain : List ℕ) → slice_get antichains place ≡ Some antichain
    → slice_get (interned antichains one) place ≡ Some antichain
slice_get-interned antichains one place antichain at = go (list_any (is_antichain one) antichains)
  where
    go : (b : Bool) → slice_get (cond b antichains (antichains ++ one ∷ [])) place ≡ Some antichain
    go true = at
    go false = slice_get-grown antichains (one ∷ []) place antichain at

pub one_at : (antichains : List (List ℕ)) (place : ℕ) (one other : List ℕ)
    → slice_get antichains place ≡ Some one → slice_get antichains place ≡ Some other → one ≡ other
one_at antichains place one other first second =
    sym (get_or_from_slice_get antichains place one one first) ∙ get_or_from_slice_get antichains
    place other one second

pub said : (result : Option ℕ) (antichain : List ℕ) (keys antichains : List (List ℕ))
    → keys ≡ antichains → result ≡ position (is_antichain antichain) keys
    → is_some result ≡ list_any (is_antichain antichain) keys →
    MatchOption result (¬ Contains antichains antichain) (λ place. slice_get antichains place
    ≡ Some antichain)
said None antichain keys antichains view index found =
    λ there. true≢false (sym (any_antichain antichain antichains there.0
    (slice_get-get_or antichains there.0 antichain there.1 ∙ ap Some there.2)) ∙ sym
    (subst (λ (cs : List (List ℕ)). false ≡ list_any (is_antichain antichain) cs) view found))
said (Some place) antichain keys antichains view index found =
    subst (λ (cs : List (List ℕ)). slice_get cs place
    ≡ Some antichain) view (antichain_found antichain keys place (sym index))

-- what is found is what was looked for
pub find_is : (antichain : List ℕ) (antichains : List (List ℕ)) (stored : List ℕ)
    → find (is_antichain antichain) antichains ≡ Some stored → stored ≡ antichain
find_is antichain [] stored at = absurd (none-some stored at)
find_is antichain (x ∷ antichains) stored at =
    go (is_antichain antichain x) refl at (find_is antichain antichains stored)
  where
    go : (b : Bool) → is_antichain antichain x ≡ b
        → cond b (Some x) (find (is_antichain antichain) antichains) ≡ Some stored
        → (find (is_antichain antichain) antichains ≡ Some stored → stored ≡ antichain)
        → stored ≡ antichain
    go true same e later = let first : stored ≡ x = cc in
        first ∙ sym (same_text antichain x (sym same))
    go false same e later = later e

pub set_count-interned : (antichains new : List (List ℕ)) (antichain : List ℕ) (set_count more : ℕ)
    → list_any (is_antichain antichain) antichains ≡ false → new ≡ interned antichains antichain
    → set_count ≡ sum_by length antichains → more ≡ length antichain
    → set_count + more ≡ sum_by length new
set_count-interned antichains new antichain set_count more absent is counted size =
    let pushed : new ≡ antichains ++ antichain ∷ [] =
    is ∙ ap (λ (b : Bool). cond b antichains (antichains ++ antichain ∷ [])) absent in
    let summed : sum_by length (antichains ++ antichain ∷ [])
    ≡ sum_by length antichains + sum_by length (antichain ∷ []) =
    sum_by-append length antichains (antichain ∷ []) in
    let one : sum_by length (antichain ∷ []) ≡ length antichain = omega arith in
    omega (arith, ap (sum_by length) pushed, summed, one, counted, size)

pub antichains-interned : (antichains new : List (List ℕ)) (antichain : List ℕ)
    → new ≡ interned antichains antichain → All IsAntichain antichains → IsAntichain antichain
    → All IsAntichain new
antichains-interned antichains new antichain is each one =
    subst (All IsAntichain) (sym is) (go (list_any (is_antichain antichain) antichains))
  where
    go : (b : Bool) → All IsAntichain (cond b antichains (antichains ++ antichain ∷ []))
    go true = each
    go false = All-push IsAntichain antichains antichain each one
