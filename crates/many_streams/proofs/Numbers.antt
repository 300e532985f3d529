-- The first place of a name in a list of names, and in a list of byte vectors.
use Rattle.std.proofs.Common.{◌≡◌, ◌≢◌, ℕ, suc, ◌+◌, ◌<◌, ◌≤◌, Bool, true, false, cond, ltb, List}
use Rattle.std.proofs.Common.{[]}
use Rattle.std.proofs.Common.{◌∷◌, ◌++◌, length, refl, sym, ◌∙◌, ap, ap₂, subst, arith, Vec, Global}
use Rattle.std.proofs.Common.{get_or}
use Rattle.std.proofs.Common.{length-append}
use Rattle.std.specs.Prelude.{not, map, Option, None, Some, slice_get, is_some}
use Rattle.std.specs.List.{Contains, list_any, position, position_or_len, prefix_len}
use Rattle.std.specs.Str.{bytes_eq}
use Rattle.std.proofs.lemmas.List.{map-append}
use Rattle.std.proofs.lemmas.Bool.{true≢false, cond-true}
use Rattle.std.proofs.lemmas.Bool.Decides.{Decides-ltb}
use Rattle.std.proofs.lemmas.List.Sums.{position_or_len_is}
use Rattle.std.proofs.lemmas.Slice.Eq.{bytes_eq-Decides}
use Rattle.std.proofs.Math.ListN.{get_or-append}
use Rattle.std.proofs.Math.Seq.{get_or-append_seam}
use Rattle.list_lemmas.proofs.Positions.{Names, is_text, bytes_of, no_name, place_missing}
use Rattle.list_lemmas.proofs.Positions.{place_decides, bytes_eq-other}
use Rattle.many_streams.specs.Streams.{number_of}

length-mapped : (names : Names) → length (map bytes_of names) ≡ length names
length-mapped [] = refl
length-mapped (name ∷ names) = ap suc (length-mapped names)

front-mapped : (name : List ℕ) (names : Names)
    → prefix_len (λ known. not (bytes_eq name known)) (map bytes_of names)
    ≡ prefix_len (λ known. not (is_text name known)) names
front-mapped name [] = refl
front-mapped name (first ∷ names) =
    ap (λ n. cond (not (is_text name first)) (1 + n) 0) (front-mapped name names)

-- the place among the vectors is that among their bytes
pub number_of-mapped : (name : List ℕ) (names : Names)
    → position (is_text name) names ≡ number_of (map bytes_of names) name
number_of-mapped name names =
    ap₂ (λ (n count : ℕ). cond (ltb n count) (Some n) None) (sym (front-mapped name names))
    (sym (length-mapped names))

-- a name without a number is none of them
pub number_of-none : (names : List (List ℕ)) (name : List ℕ) → number_of names name ≡ None
    → Contains names name → ⊥
number_of-none names name none there =
    let some : is_some (number_of names name) ≡ true = (place_decides names name).1 there in
    true≢false (sym some ∙ ap is_some none)

pub pushed : (name : List ℕ) (new : Vec ℕ Global) (names after : Names) (list : List (List ℕ))
    → map bytes_of names ≡ list → number_of list name ≡ None → bytes_of new ≡ name →
    after ≡ cond (list_any (is_text (bytes_of new)) names) names (names ++ new ∷ [])
    → map bytes_of after ≡ list ++ name ∷ []
pushed name new names after list view none spelled is =
    let absent : list_any (is_text (bytes_of new)) names ≡ false =
    no_name (bytes_of new) names (λ there.
    number_of-none list name none (subst (Contains list) spelled
    (subst (λ (l : List (List ℕ)). Contains l (bytes_of new)) view there))) in
    ap (map bytes_of) (is ∙ ap (λ (b : Bool). cond b names (names ++ new ∷ [])) absent)
    ∙ map-append bytes_of names (new ∷ [])
    ∙ ap (λ (l : List (List ℕ)). l ++ bytes_of new ∷ []) view
    ∙ ap (λ (t : List ℕ). list ++ t ∷ []) spelled

-- the number of a name that is put last
pub number_of-last : (names : List (List ℕ)) (name : List ℕ) → number_of names name ≡ None
    → number_of (names ++ name ∷ []) name ≡ Some (length names)
number_of-last names name none =
    let all = names ++ name ∷ [] in
    let n = length names in
    let longer : length all ≡ n + 1 = length-append names (name ∷ []) in
    let before : (k : ℕ) → k < n → bytes_eq name (get_or all k name) ≡ false = λ k less.
    bytes_eq-other name (get_or all k name) (λ same.
    number_of-none names name none (
      k,
      less,
      sym (get_or-append names (name ∷ []) name k less)
          ∙ sym same,
    )) in
    let first : position_or_len (λ known. bytes_eq name known) all ≡ n =
    position_or_len_is (λ known. bytes_eq name known) all n name (omega (arith, longer)) before
    (λ _. (bytes_eq-Decides name (get_or all n name)).1
    (sym (get_or-append_seam names name [] name))) in
    ap (λ (p : ℕ). cond (ltb p (length all)) (Some p) None) first ∙ cond-true
    (ltb n (length all)) (Some n) None
    ((Decides-ltb n (length all)).1 (omega (arith, longer)))
