-- Lists of distinct antichains, and how they grow.
use Rattle.std.proofs.Common.{◌≡◌, ℕ, zero, suc, Bool, true, false, cond, List, [], ◌∷◌, ◌++◌}
use Rattle.std.proofs.Common.{get_or, refl, sym, ◌∙◌, ap, subst, arith, inl, inr, nat_eq}
use Rattle.std.proofs.Common.{append_assoc}
use Rattle.std.specs.Prelude.{◌≢◌, ◌⊎◌, ◌↔◌, Some}
use Rattle.std.specs.List.{Contains, list_any, IsDistinct}
use Rattle.std.specs.Cmp.Lexicographic.{pointwise, same_text}
use Rattle.std.proofs.lemmas.Bool.{true≢false}
use Rattle.std.proofs.lemmas.List.{append-nil}
use Rattle.std.proofs.lemmas.List.Elements.{Contains-append_left, Contains-push}
use Rattle.std.proofs.lemmas.List.Elements.{Contains-push_cases}
use Rattle.std.proofs.lemmas.List.Quantifiers.{all_pairs_push}
use Rattle.std.proofs.lemmas.Map.Keys.{apart_from_distinct}
use Rattle.std.proofs.lemmas.Option.{slice_get-get_or}
use Rattle.indexmap.proofs.CallerLemmas.{Contains-list_any}
use Rattle.formula_store.specs.Interned.{interned, interned_all, AreDistinct, Extends}
use Rattle.formula_store.specs.Laws.{Generation}
use Rattle.formula_store.proofs.Antichains.{is_antichain, any_antichain, tested, Tested}

differ : (x y : List ℕ) → is_antichain x y ≡ false → x ≢ y
differ x y told same = go (tested x y)
  where
    go : Tested x y → ⊥
    go (inl equal) = true≢false (sym equal.0 ∙ told)
    go (inr other) = other.1 same

pub AreDistinct-keys : (antichains : List (List ℕ)) → IsDistinct (pointwise nat_eq) antichains
    → AreDistinct antichains
AreDistinct-keys antichains distinct i j d before within =
    differ (get_or antichains i d) (get_or antichains j d)
    (apart_from_distinct (pointwise nat_eq) antichains i j d distinct before within)

pub Extends-refl : (antichains : List (List ℕ)) → Extends antichains antichains
Extends-refl antichains = ([], sym (append-nil antichains))

pub Extends-same : (old new : List (List ℕ)) → new ≡ old → Extends old new
Extends-same old new is = ([], is ∙ sym (append-nil old))

pub Extends-trans : (one two three : List (List ℕ)) → Extends one two → Extends two three
    → Extends one three
Extends-trans one two three first second = (
  first.0 ++ second.0,
  second.1 ∙ ap (λ (xs : List (List ℕ)).
      xs ++ second.0) first.1 ∙ append_assoc one first.0 second.0,
)

pub Extends-interned : (old new : List (List ℕ)) (antichain : List ℕ) → new ≡ interned old antichain
    → Extends old new
Extends-interned old new antichain is = go (list_any (is_antichain antichain) old) is
  where
    go : (b : Bool) → new ≡ cond b old (old ++ antichain ∷ []) → Extends old new
    go true same = Extends-same old new same
    go false same = (antichain ∷ [], same)

-- what is in a list is in each longer one
pub Contains-Extends : (old new : List (List ℕ)) (antichain : List ℕ) → Extends old new
    → Contains old antichain → Contains new antichain
Contains-Extends old new antichain grown there =
    subst (λ (xs : List (List ℕ)). Contains xs antichain) (sym grown.1)
    (Contains-append_left old grown.0 antichain there)

-- what went in is there
pub Contains-interned : (old : List (List ℕ)) (antichain : List ℕ)
    → Contains (interned old antichain) antichain
Contains-interned old antichain = go (list_any (is_antichain antichain) old) refl
  where
    go : (b : Bool) → list_any (is_antichain antichain) old ≡ b
        → Contains (cond b old (old ++ antichain ∷ [])) antichain
    go true there = Contains-list_any is_antichain (λ x y is.
        same_text x y (sym is)) old antichain there
    go false absent = Contains-push old antichain

AreDistinct-interned : (old : List (List ℕ)) (antichain : List ℕ) → AreDistinct old
    → AreDistinct (interned old antichain)
AreDistinct-interned old antichain distinct = go (list_any (is_antichain antichain) old) refl
  where
    go : (b : Bool) → list_any (is_antichain antichain) old ≡ b
        → AreDistinct (cond b old (old ++ antichain ∷ []))
    go true there = distinct
    go false absent = all_pairs_push (λ (x y : List ℕ). x ≢ y) old antichain distinct
        (λ k d within same. true≢false
        (sym (any_antichain antichain old k
        (slice_get-get_or old k d within ∙ ap Some same)) ∙ absent))

from_interned : (old : List (List ℕ)) (antichain other : List ℕ)
    → Contains (interned old antichain) other → Contains old other ⊎ (antichain ≡ other)
from_interned old antichain other = go (list_any (is_antichain antichain) old)
  where
    go : (b : Bool) → Contains (cond b old (old ++ antichain ∷ [])) other
        → Contains old other ⊎ (antichain ≡ other)
    go true there = inl there
    go false there = Contains-push_cases old antichain other there

members : (old antichains : List (List ℕ)) (antichain : List ℕ)
    → Contains (interned_all old antichains) antichain
    ↔ (Contains old antichain ⊎ Contains antichains antichain)
members old [] antichain = (
  λ there. inl there,
  λ there. elim there [
    | inl here ↦ here
    | inr none ↦
        absurd (let l = none.1 in omega (arith, l))
  ],
)
members old (x ∷ xs) antichain = step (members (interned old x) xs antichain)
  where
    step : (Contains (interned_all (interned old x) xs) antichain
        ↔ (Contains (interned old x) antichain ⊎ Contains xs antichain))
        → Contains (interned_all (interned old x) xs) antichain
        ↔ (Contains old antichain ⊎ Contains (x ∷ xs) antichain)
    step rest = (λ there. to (rest.0 there), λ there. rest.1 (from there))
      where
        to : Contains (interned old x) antichain ⊎ Contains xs antichain
            → Contains old antichain ⊎ Contains (x ∷ xs) antichain
        to (inl here) = elim (from_interned old x antichain here) [
          | inl before ↦
              inl before
          | inr same ↦ inr (zero, omega arith, same)
        ]
        to (inr (k, within, is)) = inr (suc k, omega (arith, within), is)

        from : Contains old antichain ⊎ Contains (x ∷ xs) antichain
            → Contains (interned old x) antichain ⊎ Contains xs antichain
        from (inl there) =
            inl (Contains-Extends old (interned old x) antichain
            (Extends-interned old (interned old x) x refl) there)
        from (inr (zero, within, is)) =
            inl (subst (λ (y : List ℕ). Contains (interned old x) y) is (Contains-interned old x))
        from (inr (suc k, within, is)) = inr (k, omega (arith, within), is)

distinct : (old antichains : List (List ℕ)) → AreDistinct old
    → AreDistinct (interned_all old antichains)
distinct old [] are = are
distinct old (x ∷ xs) are = distinct (interned old x) xs (AreDistinct-interned old x are)

pub generation : Generation
generation antichains = (
  distinct [] antichains (λ i j d before within.
      absurd (omega (arith, before, within))),
  λ antichain. (
    λ there. elim ((members [] antichains antichain).0 there) [
      | inl none ↦
          absurd (let l = none.1 in omega (arith, l))
      | inr here ↦
          here
    ],
    λ there. (members [] antichains antichain).1 (inr there),
  ),
)
