-- Texts in the order of their bytes.
use Rattle.std.proofs.Common.{◌≡◌, ℕ, ◌+◌, ◌<◌, List, [], ◌∷◌, ◌++◌, length, take, get_or, map, sym}
use Rattle.std.proofs.Common.{◌∙◌, ap, subst, arith, append_assoc}
use Rattle.std.specs.Prelude.{Vec, codes}
use Rattle.std.specs.Global.{Global}
use Rattle.std.specs.Cmp.Lexicographic.{slice_cmp}
use Rattle.std.specs.Ordering.{nat_cmp, is_lt}
use Rattle.std.specs.List.Sorted.{IsPermutation, IsSorted}
use Rattle.std.proofs.lemmas.List.{get_or-map, length-map, take_more, map-append, append-nil}
use Rattle.std.proofs.lemmas.Grind.{flat_map-append}
use Rattle.std.proofs.lemmas.List.Sorted.{IsPermutation-map}
use Rattle.rewriting_text.specs.Leaves.{bytes_of_each, text_lines}

abbrev pub Text : Type 0
Text = Vec ℕ Global

-- the bytes of texts in order are in order
pub sorted_bytes : (texts : List Text)
    → IsSorted (λ (x y : Text). slice_cmp nat_cmp x.items y.items) texts
    → IsSorted (slice_cmp nat_cmp) (bytes_of_each texts)
sorted_bytes [] sorted = λ k d low below. absurd (omega arith)
sorted_bytes (first ∷ rest) sorted = λ k d low below.
    let texts : List Text = first ∷ rest in
    let f = λ (t : Text). t.items in
    let same : length (map f texts) ≡ length texts = length-map texts f in
    let within : k + 1 < length texts = omega (arith, below, same) in
    let early : k < length texts = omega (arith, within) in
    let one : get_or (map f texts) (k + 1) d ≡ f (get_or texts (k + 1) first) =
    get_or-map f texts (k + 1) first d within in
    let other : get_or (map f texts) k d ≡ f (get_or texts k first) =
    get_or-map f texts k first d early in
    ap (λ (x : List ℕ). is_lt (slice_cmp nat_cmp x (get_or (map f texts) k d))) one
    ∙ (ap (λ (y : List ℕ). is_lt (slice_cmp nat_cmp (f (get_or texts (k + 1) first)) y)) other
    ∙ sorted k first (omega arith) within)

pub arranged_bytes : (all : List (List ℕ)) (before now : List Text) → bytes_of_each before ≡ all
    → IsPermutation before now → IsPermutation all (bytes_of_each now)
arranged_bytes all before now is moved =
    subst (λ (xs : List (List ℕ)). IsPermutation xs (bytes_of_each now)) is
    (IsPermutation-map (λ (t : Text). t.items) before now moved)

-- one more text
pub bytes_push : {X : Type 0} (f : X
    → List ℕ) (texts : List Text) (text : Text) (xs : List X) (i : ℕ) (d : X) → i < length xs
    → bytes_of_each texts ≡ map f (take i xs) → text.items ≡ f (get_or xs i d)
    → bytes_of_each (texts ++ text ∷ []) ≡ map f (take (i + 1) xs)
bytes_push f texts text xs i d below so_far is =
    map-append (λ (t : Text). t.items) texts (text ∷ [])
    ∙ (ap (λ (ts : List (List ℕ)). ts ++ text.items ∷ []) so_far
    ∙ (ap (λ (t : List ℕ). map f (take i xs) ++ t ∷ []) is
    ∙ (sym (map-append f (take i xs) (get_or xs i d ∷ []))
    ∙ ap (map f) (sym (take_more xs i d below)))))

lines_more : (texts : List Text) (i : ℕ) (text : Text) → i < length texts
    → text_lines (bytes_of_each (take (i + 1) texts))
    ≡ text_lines (bytes_of_each (take i texts)) ++ ((get_or texts i text).items ++ codes "\n")
lines_more texts i text below =
    let next : List ℕ = (get_or texts i text).items in
    let f = λ (t : List ℕ). t ++ codes "\n" in
    ap (λ (ts : List Text). text_lines (bytes_of_each ts)) (take_more texts i text below)
    ∙ (ap text_lines (map-append (λ (t : Text). t.items) (take i texts) (get_or texts i text ∷ []))
    ∙ (flat_map-append f (bytes_of_each (take i texts)) (next ∷ [])
    ∙ ap (λ (l : List ℕ). text_lines (bytes_of_each (take i texts)) ++ l)
    (append-nil (next ++ codes "\n"))))

-- one more line
pub lines_push : (out before now : List ℕ) (texts : List Text) (i : ℕ) (text : Text)
    → i < length texts → before ≡ out ++ text_lines (bytes_of_each (take i texts))
    → now ≡ before ++ ((get_or texts i text).items ++ codes "\n")
    → now ≡ out ++ text_lines (bytes_of_each (take (i + 1) texts))
lines_push out before now texts i text below so_far is =
    let next : List ℕ = (get_or texts i text).items ++ codes "\n" in
    is
    ∙ (ap (λ (b : List ℕ). b ++ next) so_far
    ∙ (append_assoc out (text_lines (bytes_of_each (take i texts))) next
    ∙ ap (λ (l : List ℕ). out ++ l) (sym (lines_more texts i text below))))
