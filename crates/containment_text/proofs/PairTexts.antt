-- What is told of pairs, gathered one after another.
use Rattle.std.proofs.Common.{◌≡◌, ℕ, ◌+◌, ◌<◌, ◌≤◌, List, [], ◌∷◌, ◌++◌, length, take, get_or}
use Rattle.std.proofs.Common.{refl, sym, ◌∙◌, ap, subst, arith, append_assoc}
use Rattle.std.specs.Prelude.{◌==◌, if◌then◌else◌}
use Rattle.std.proofs.lemmas.List.{append-nil, length-take}
use Rattle.std.specs.Prelude.{Some, slice_get}
use Rattle.std.specs.List.{AllZip}
use Rattle.std.proofs.lemmas.Option.{get_or_from_slice_get, slice_get-get_or, slice_get_read}
use Rattle.list_lemmas.proofs.Zipped.{AllZip-left}
use Rattle.dl_syntax.specs.Ontology.{Declared}
use Rattle.tcq_syntax.specs.Tcq.{Tcq}
use Rattle.monitor_core.proofs.Askable.{taken_more}
use Rattle.std.specs.Prelude.{Result, Ok, Err, OnOk}
use Rattle.dl_syntax.specs.declared.queries.Cq.{Cq}
use Rattle.contain_test.specs.declared.deciding.Containment.{Containment}
use Rattle.contain_test.specs.Contained.{IsExact}
use Rattle.containment_text.specs.Containments.{Pair, pair_of, pair_line, pairs_with}
use Rattle.containment_text.specs.Containments.{pairs_from, TellsPair, TellsPairs}
use Rattle.containment_text.specs.Containments.{TellsMorePairs}

module _ (o : Declared) where
  tells_append : (xs ys : List Pair) (one other : List ℕ) → TellsPairs o xs one
      → TellsPairs o ys other → TellsPairs o (xs ++ ys) (one ++ other)
  tells_append [] ys one other is tells =
      subst (TellsPairs o ys) (ap (λ (l : List ℕ). l ++ other) (sym is)) tells
  tells_append (x ∷ xs) ys one other (first, rest, pair, later, is) tells = (
    first,
    rest ++ other,
    pair,
    tells_append xs ys rest other later tells,
    ap (λ (l : List ℕ).
        l ++ other) is ∙ append_assoc first rest other,
  )

  pub more_none : (text : List ℕ) → TellsMorePairs o [] text text
  more_none text = record { told = []; tells = refl; gains = sym (append-nil text) }

  pub more_one : (pair : Pair) (before now told : List ℕ) → TellsPair o pair told
      → now ≡ before ++ told → TellsMorePairs o (pair ∷ []) before now
  more_one pair before now told tells gains =
      record { told = told; tells = (told, [], tells, refl, sym (append-nil told)); gains = gains }

  -- the next pairs, where all are those so far and these
  pub more_next : (front next longer : List Pair) (before middle now : List ℕ)
      → longer ≡ front ++ next → TellsMorePairs o front before middle
      → TellsMorePairs o next middle now → TellsMorePairs o longer before now
  more_next front next longer before middle now is one other =
      subst (λ (ps : List Pair). TellsMorePairs o ps before now) (sym is) (record {
        told = one.told ++ other.told;
        tells = tells_append front next one.told other.told one.tells other.tells;
        gains = other.gains ∙ (ap (λ (l : List ℕ).
            l ++ other.told) one.gains ∙ append_assoc before one.told other.told);
      })

abbrev pub pair_at : ℕ → Tcq → ℕ → Tcq → List Pair
pair_at place query from other = if place == from then [] else pair_of query other

with-append : (place : ℕ) (query : Tcq) (from : ℕ) (xs ys : List Tcq)
    → pairs_with place query from (xs ++ ys)
    ≡ pairs_with place query from xs ++ pairs_with place query (from + length xs) ys
with-append place query from [] ys = ap (λ (n : ℕ). pairs_with place query n ys) (omega arith)
with-append place query from (x ∷ xs) ys =
    let further : from + 1 + length xs ≡ from + length (x ∷ xs) = omega arith in
    ap (λ (ps : List Pair). pair_at place query from x ++ ps)
    (with-append place query (from + 1) xs ys ∙ ap (λ (n : ℕ).
    pairs_with place query (from + 1) xs ++ pairs_with place query n ys) further)
    ∙ sym (append_assoc (pair_at place query from x) (pairs_with place query (from + 1) xs)
    (pairs_with place query (from + length (x ∷ xs)) ys))

from-append : (all : List Tcq) (place : ℕ) (xs ys : List Tcq)
    → pairs_from all place (xs ++ ys) ≡ pairs_from all place xs
    ++ pairs_from all (place + length xs) ys
from-append all place [] ys = ap (λ (n : ℕ). pairs_from all n ys) (omega arith)
from-append all place (x ∷ xs) ys =
    let further : place + 1 + length xs ≡ place + length (x ∷ xs) = omega arith in
    ap (λ (ps : List Pair). pairs_with place x 0 all ++ ps)
    (from-append all (place + 1) xs ys ∙ ap (λ (n : ℕ).
    pairs_from all (place + 1) xs ++ pairs_from all n ys) further)
    ∙ sym (append_assoc (pairs_with place x 0 all) (pairs_from all (place + 1) xs)
    (pairs_from all (place + length (x ∷ xs)) ys))

front_length : (queries : List Tcq) (i : ℕ) → i ≤ length queries → 0 + length (take i queries) ≡ i
front_length queries i within = omega (arith, length-take i queries)

-- the pairs of a query with one more
pub with_more : (place : ℕ) (query : Tcq) (queries : List Tcq) (i : ℕ) (other : Tcq)
    → i < length queries → other ≡ get_or queries i other
    → pairs_with place query 0 (take (i + 1) queries)
    ≡ pairs_with place query 0 (take i queries) ++ pair_at place query i other
with_more place query queries i other below is =
    ap (pairs_with place query 0) (taken_more queries i other below is)
    ∙ (with-append place query 0 (take i queries) (other ∷ [])
    ∙ (ap (λ (n : ℕ). pairs_with place query 0 (take i queries)
    ++ pairs_with place query n (other ∷ [])) (front_length queries i (omega arith))
    ∙ ap (λ (ps : List Pair). pairs_with place query 0 (take i queries) ++ ps)
    (append-nil (pair_at place query i other))))

-- the pairs of one more query with all
pub from_more : (all queries : List Tcq) (i : ℕ) (query : Tcq) → i < length queries
    → query ≡ get_or queries i query
    → pairs_from all 0 (take (i + 1) queries)
    ≡ pairs_from all 0 (take i queries) ++ pairs_with i query 0 all
from_more all queries i query below is =
    ap (pairs_from all 0) (taken_more queries i query below is)
    ∙ (from-append all 0 (take i queries) (query ∷ [])
    ∙ (ap (λ (n : ℕ). pairs_from all 0 (take i queries) ++ pairs_from all n (query ∷ []))
    (front_length queries i (omega arith))
    ∙ ap (λ (ps : List Pair). pairs_from all 0 (take i queries) ++ ps)
    (append-nil (pairs_with i query 0 all))))

-- what stands at a place is there whatever is read past the end
pub get_or_own : {X : Type 0} (xs : List X) (i : ℕ) (d : X) → i < length xs
    → get_or xs i d ≡ get_or xs i (get_or xs i d)
get_or_own {X} [] i d below = absurd (omega (arith, below))
get_or_own {X} (x ∷ xs) i d below =
    sym (get_or_from_slice_get (x ∷ xs) i (get_or (x ∷ xs) i d) (get_or (x ∷ xs) i d)
    (slice_get-get_or (x ∷ xs) i d below))

-- a fact of two lists at a place
pub zip_at : {A B : Type 0} (R : A → B → Type 0) (xs : List A) (ys : List B) (i : ℕ) (x : A) (y : B)
    → AllZip R xs ys → i < length xs → x ≡ get_or xs i x → y ≡ get_or ys i y → R x y
zip_at {A} {B} R xs ys i x y zipped below x_is y_is =
    let found : (z : B) × (slice_get ys i ≡ Some z) × R x z =
    AllZip-left R xs ys i x zipped (slice_get_read xs (length xs) i x refl below x_is) in
    subst (R x) (sym (y_is ∙ get_or_from_slice_get ys i found.0 y found.1)) found.2

pub on_ok_weaker : {A E : Type 0} (P Q : Type 0) → (P → Q) → (r : Result A E) → OnOk r P → OnOk r Q
on_ok_weaker P Q onward (Ok a) is = onward is
on_ok_weaker P Q onward (Err e) is = is

-- the line of two queries that are a pair
pub more_pair : (o : Declared) (query other : Tcq) (q r : Cq) (name name' before now : List ℕ)
    (c : Containment)
    → pair_of query other ≡ record {
      first_name = query.name;
      first = q;
      second_name =
          other.name;
      second = r;
    } ∷ []
    → IsExact o q r c → name ≡ query.name → name' ≡ other.name
    → now ≡ before ++ pair_line o name name' c
    → TellsMorePairs o (pair_of query other) before now
more_pair o query other q r name name' before now c is exact name_is other_is gains =
    subst (λ (ps : List Pair). TellsMorePairs o ps before now) (sym is)
    (more_one o (record {
      first_name = query.name;
      first = q;
      second_name = other.name;
      second =
          r;
    }) before now (pair_line o query.name other.name c)
    (record { containment = c; exact = exact; is = refl })
    (gains ∙ ap (λ (n : List ℕ). before ++ pair_line o n name' c) name_is ∙ ap (λ (n : List ℕ).
    before ++ pair_line o query.name n c) other_is))
