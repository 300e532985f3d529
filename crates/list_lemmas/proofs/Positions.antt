-- The first place of a text in a list of texts, and in a list of byte vectors.
use Rattle.std.proofs.Common.{◌≡◌, ℕ, ◌<◌, ◌≤◌, Bool, true, false, cond, ltb, List, [], ◌∷◌, length}
use Rattle.std.proofs.Common.{get_or, refl, sym, ap, ◌∙◌, subst, arith, inl, inr, nat_eq, Vec}
use Rattle.std.proofs.Common.{Global}
use Rattle.std.specs.Prelude.{◌≢◌, ◌⊎◌, Option, Some, None, map, slice_get, is_some}
use Rattle.std.specs.List.{AllPairs, Contains, list_any, position, position_or_len}
use Rattle.std.specs.Str.{bytes_eq}
use Rattle.std.specs.Bool.{Decides}
use Rattle.std.specs.Option.{option_map}
use Rattle.std.specs.Cmp.Lexicographic.{same_text, told_text}
use lib.Pointwise.{pointwise}
use Rattle.std.proofs.lemmas.Bool.{cond-true, cases_lt}
use Rattle.std.proofs.lemmas.Bool.Decides.{Decides-ltb}
use Rattle.std.proofs.lemmas.Slice.Eq.{bytes_eq-Decides}
use Rattle.std.proofs.lemmas.List.Sums.{position_or_len_is, fails_before_first}
use Rattle.std.proofs.lemmas.List.Quantifiers.{position-Some}
use Rattle.std.proofs.lemmas.Option.{slice_get_within, get_or_from_slice_get, slice_get-map}
use Rattle.std.proofs.lemmas.Option.{slice_get-get_or, none-some}
use Rattle.list_lemmas.proofs.Elements.{Contains-first, Contains-later, Contains-cons_cases}

-- the first place of the text
abbrev pub place_of : List (List ℕ) → List ℕ → Option ℕ
place_of names text = position (λ known. bytes_eq text known) names

-- texts that differ fail the test
pub bytes_eq-other : (a b : List ℕ) → a ≢ b → bytes_eq a b ≡ false
bytes_eq-other a b apart = go (bytes_eq a b) refl
  where
    go : (r : Bool) → r ≡ bytes_eq a b → bytes_eq a b ≡ false
    go false same = sym same
    go true same = absurd (apart ((bytes_eq-Decides a b).0 (sym same)))

-- among distinct texts the place where it stands is its first
pub place_there : (names : List (List ℕ)) (text : List ℕ) (n : ℕ) → AllPairs (λ a b. a ≢ b) names
    → slice_get names n ≡ Some text → place_of names text ≡ Some n
place_there names text n distinct at =
    let within : n < length names = slice_get_within names n text at in
    let here : (d : List ℕ) → get_or names n d ≡ text =
    λ d. get_or_from_slice_get names n text d at in
    let before : (k : ℕ) → k < n → bytes_eq text (get_or names k text) ≡ false = λ k lt.
    bytes_eq-other text (get_or names k text) (λ same.
    distinct k n text lt within (sym same ∙ sym (here text))) in
    let first : position_or_len (λ known. bytes_eq text known) names ≡ n =
    position_or_len_is (λ known. bytes_eq text known) names n text (omega arith) before (λ _.
    (bytes_eq-Decides text (get_or names n text)).1 (sym (here text))) in
    ap (λ (p : ℕ). cond (ltb p (length names)) (Some p) None) first ∙ cond-true
    (ltb n (length names)) (Some n) None ((Decides-ltb n (length names)).1 within)

-- a text that no list has stands at no place
pub place_missing : (names : List (List ℕ)) (text : List ℕ) → (¬ Contains names text)
    → place_of names text ≡ None
place_missing names text missing =
    let before : (k : ℕ) → k < length names → bytes_eq text (get_or names k text) ≡ false = λ k lt.
    bytes_eq-other text (get_or names k text) (λ same. missing (k, lt, sym same)) in
    let first : position_or_len (λ known. bytes_eq text known) names ≡ length names =
    position_or_len_is (λ known. bytes_eq text known) names (length names) text (omega arith) before
    (λ lt. absurd (omega arith)) in
    ap (λ (p : ℕ). cond (ltb p (length names)) (Some p) None) first ∙ grind arith

-- ---- whether a text is in the list

there : (names : List (List ℕ)) (text : List ℕ) (found : Option ℕ) → place_of names text ≡ found
    → is_some found ≡ true → Contains names text
there names text None at some = absurd cc
there names text (Some n) at some =
    let is = position-Some (λ known. bytes_eq text known) names n text at in
    (n, is.0, sym ((bytes_eq-Decides text (get_or names n text)).0 is.1))

found_before : (names : List (List ℕ)) (text : List ℕ) → Contains names text
    → position_or_len (λ known. bytes_eq text known) names < length names
found_before names text (k, within, is) =
    go (cases_lt (position_or_len (λ known. bytes_eq text known) names) (length names))
  where
    go : ((position_or_len (λ known. bytes_eq text known) names < length names)
        ⊎ (length names ≤ position_or_len (λ known. bytes_eq text known) names))
        → position_or_len (λ known. bytes_eq text known) names < length names
    go (inl lt) = lt
    go (inr le) =
        let fails : bytes_eq text (get_or names k text) ≡ false =
        fails_before_first (λ known. bytes_eq text known) names k text (omega arith) in
        let same : bytes_eq text (get_or names k text) ≡ true =
        (bytes_eq-Decides text (get_or names k text)).1 (sym is) in
        absurd cc

some_where : (b : Bool) (n : ℕ) → b ≡ true → is_some (cond b (Some n) None) ≡ true
some_where true n h = refl
some_where false n h = absurd cc

-- whether there is a place tells whether the list has the text
pub place_decides : (names : List (List ℕ)) (text : List ℕ)
    → Decides (is_some (place_of names text)) (Contains names text)
place_decides names text = (
  there names text (place_of names text) refl,
  λ h. some_where (ltb (position_or_len (λ known. bytes_eq text known) names) (length names))
      (position_or_len (λ known. bytes_eq text known) names)
      ((Decides-ltb (position_or_len (λ known. bytes_eq text known) names) (length names)).1
      (found_before names text h)),
)

-- ---- among byte vectors

abbrev pub Names : Type 0
Names = List (Vec ℕ Global)

abbrev pub bytes_of : Vec ℕ Global → List ℕ
bytes_of v = v.items

abbrev pub is_text : List ℕ → Vec ℕ Global → Bool
is_text text v = pointwise nat_eq text v.items

abbrev Tested : List ℕ → Vec ℕ Global → Type 0
Tested text n = ((is_text text n ≡ true) × (text ≡ bytes_of n))
    ⊎ ((is_text text n ≡ false) × (text ≢ bytes_of n))

tested : (text : List ℕ) (n : Vec ℕ Global) → Tested text n
tested text n = go (is_text text n) refl
  where
    go : (b : Bool) → b ≡ is_text text n → Tested text n
    go true same = inl (sym same, told_text text (bytes_of n) true same)
    go false same = inr (sym same, told_text text (bytes_of n) false same)

-- a text among the bytes is found among the vectors
pub any_name : (text : List ℕ) (names : Names) → Contains (map bytes_of names) text
    → list_any (is_text text) names ≡ true
any_name text [] (k, below, is) = absurd (omega arith)
any_name text (n ∷ names) there =
    go (tested text n) (λ later. any_name text names later)
    (Contains-cons_cases (bytes_of n) (map bytes_of names) text there)
  where
    go : Tested text n → (Contains (map bytes_of names) text → list_any (is_text text) names ≡ true)
        → (bytes_of n ≡ text) ⊎ Contains (map bytes_of names) text
        → list_any (is_text text) (n ∷ names) ≡ true
    go (inl is) more either = rw is.0 refl
    go (inr other) more (inl first) = absurd (other.1 (sym first))
    go (inr other) more (inr later) = rw other.0 (more later)

-- and another is not
pub no_name : (text : List ℕ) (names : Names) → (Contains (map bytes_of names) text → ⊥)
    → list_any (is_text text) names ≡ false
no_name text [] none = refl
no_name text (n ∷ names) none =
    go (tested text n) (no_name text names (λ later.
    none (Contains-later (bytes_of n) (map bytes_of names) text later)))
  where
    go : Tested text n → list_any (is_text text) names ≡ false
        → list_any (is_text text) (n ∷ names) ≡ false
    go (inl is) rest =
        absurd (none (subst (Contains (map bytes_of (n ∷ names))) (sym is.1)
        (Contains-first (bytes_of n) (map bytes_of names))))
    go (inr other) rest = rw other.0 rest

-- where it is found the bytes are the text
pub name_found : (text : List ℕ) (names : Names) (place : ℕ)
    → position (is_text text) names ≡ Some place → slice_get (map bytes_of names) place ≡ Some text
name_found text [] place at = absurd (none-some place at)
name_found text (n ∷ names) place at =
    let found = position-Some (is_text text) (n ∷ names) place n at in
    let same : text ≡ bytes_of (get_or (n ∷ names) place n) =
    same_text text (bytes_of (get_or (n ∷ names) place n)) (sym found.1) in
    slice_get-map bytes_of (n ∷ names) place ∙ ap (option_map bytes_of)
    (slice_get-get_or (n ∷ names) place n found.0) ∙ ap Some (sym same)
