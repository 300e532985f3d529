-- The rewritings of the same queries are one text.
use Rattle.std.proofs.Common.{◌≡◌, ℕ, suc, ◌+◌, ◌<◌, Bool, true, false, nat_eq, cond, List, [], ◌∷◌}
use Rattle.std.proofs.Common.{◌++◌, length, get_or, map, refl, sym, ◌∙◌, ap, subst, arith, inl, inr}
use Rattle.std.specs.Cmp.{IsStrictWeakOrder}
use Rattle.std.specs.Cmp.Lexicographic.{slice_cmp, pointwise, texts_ties, bytes_decides}
use Rattle.std.specs.declared.cmp.Ordering.{Ordering}
use Rattle.std.specs.declared.cmp.Ordering.TheVariants.{Less, Equal, Greater}
use Rattle.std.specs.Ordering.{nat_cmp, is_lt, is_eq, ordering_reverse}
use Rattle.std.proofs.lemmas.Bool.{cases_lt}
use Rattle.std.specs.List.{Contains, sum_by}
use Rattle.std.specs.List.Sorted.{IsPermutation, IsSorted}
use Rattle.std.proofs.lemmas.Cmp.{nat_list_cmp_total}
use Rattle.std.proofs.lemmas.List.Sums.{sum_by-cons}
use Rattle.std.proofs.lemmas.List.Elements.{All-contains}
use Rattle.std.proofs.lemmas.List.Sorted.{IsPermutation-sym, IsPermutation-trans, IsPermutation-map}
use Rattle.std.proofs.lemmas.List.Sorted.{sum_by-IsPermutation, sorted_far, ranks_by}
use Rattle.dl_syntax.specs.declared.queries.Cq.{Cq}
use Rattle.list_lemmas.proofs.Elements.{Contains-first, Contains-later}
use Rattle.dl_syntax.specs.Ontology.{Declared}
use Rattle.perfect_ref.specs.Plain.{PlainReachable, encoded}
use Rattle.report_text.specs.Queries.{cq_text, leaf_line}
use Rattle.rewriting_text.specs.Leaves.{NamedLeaf, leaves, AreTexts, TellsLeaf, TellsLeaves}
use Rattle.rewriting_text.specs.Leaves.{text_lines}
use Rattle.rewriting_text.specs.Leaves.{OneRewriting}
use Rattle.report_text.proofs.Arrangements.{arranged}

abbrev Text : Type 0
Text = List ℕ

-- bytes that neither come before the other are the same
equal : (p q : Ordering) → p ≡ ordering_reverse q → is_lt p ≡ false → is_lt q ≡ false
    → is_eq p ≡ true
equal Less q is one other = absurd (let never : true ≡ false = one in cc)
equal Equal q is one other = refl
equal Greater Less is one other = absurd (let never : true ≡ false = other in cc)
equal Greater Equal is one other = absurd (cc)
equal Greater Greater is one other = absurd (cc)

tie : (x y : Text) → is_lt (slice_cmp nat_cmp x y) ≡ false → is_lt (slice_cmp nat_cmp y x) ≡ false
    → x ≡ y
tie x y one other = (bytes_decides x y).0
    (texts_ties x y ∙ equal (slice_cmp nat_cmp x y) (slice_cmp nat_cmp y x)
    (nat_list_cmp_total.antisymm x y) one other)

in_order : IsStrictWeakOrder (λ (x y : Text). is_lt (slice_cmp nat_cmp x y))
in_order = ranks_by nat_list_cmp_total (λ (x : Text). x)

-- the first of texts in order is the least
least : (z : Text) (zs : List Text) (w : Text) → IsSorted (slice_cmp nat_cmp) (z ∷ zs)
    → Contains (z ∷ zs) w → is_lt (slice_cmp nat_cmp w z) ≡ false
least z zs w sorted (k, below, is) =
    subst (λ (x : Text). is_lt (slice_cmp nat_cmp x z) ≡ false) is
    (sorted_far (λ (x y : Text). is_lt (slice_cmp nat_cmp x y)) in_order (z ∷ zs) sorted 0 k w
    (omega arith) below)

sorted_tail : (x : Text) (xs : List Text) → IsSorted (slice_cmp nat_cmp) (x ∷ xs)
    → IsSorted (slice_cmp nat_cmp) xs
sorted_tail x xs sorted = λ k d low below.
    let next : suc k + 1 ≡ suc (k + 1) = omega arith in
    subst (λ (n : ℕ). is_lt (slice_cmp nat_cmp (get_or (x ∷ xs) n d) (get_or xs k d))
    ≡ false) next (sorted (suc k) d (omega arith) (omega (arith, below)))

positive : {X : Type 0} (f : X → ℕ) (xs : List X) → 0 < sum_by f xs
    → (x : X) × Contains xs x × (0 < f x)
positive f [] h = absurd (omega (arith, h))
positive {X} f (x ∷ xs) h = elim (cases_lt 0 (f x)) [
  | inl here ↦ (x, Contains-first x xs, here)
  | inr none ↦ (let r : (z : X) × Contains xs z × (0 < f z) =
      positive f xs (omega (arith, h, none, sum_by-cons f x xs)) in
      (r.0, Contains-later x xs r.0 r.1, r.2))
]

-- one at a text, and nought at all others
abbrev at_text : Text → Text → ℕ
at_text x s = cond (pointwise nat_eq x s) 1 0

is_at : (b : Bool) → 0 < cond b 1 0 → b ≡ true
is_at true h = refl
is_at false h = absurd (omega (arith, h))

-- a text of the first list is in the second, where all sums over them are equal
member_by_sums : (x : Text) (xs ys : List Text) → ((f : Text → ℕ) → sum_by f (x ∷ xs) ≡ sum_by f ys)
    → Contains ys x
member_by_sums x xs ys sums =
    let one : at_text x x ≡ 1 = ap (λ (b : Bool). cond b 1 0) ((bytes_decides x x).1 refl) in
    let all : at_text x x + sum_by (at_text x) xs ≡ sum_by (at_text x) ys =
    sym (sum_by-cons (at_text x) x xs) ∙ sums (at_text x) in
    let some : (t : Text) × Contains ys t × (0 < at_text x t) =
    positive (at_text x) ys (omega (arith, one, all)) in
    let same : x ≡ some.0 = (bytes_decides x some.0).0 (is_at (pointwise nat_eq x some.0) some.2) in
    subst (Contains ys) (sym same) some.1

-- texts have one order
one_order : (xs ys : List Text) → IsSorted (slice_cmp nat_cmp) xs → IsSorted (slice_cmp nat_cmp) ys
    → ((f : Text → ℕ) → sum_by f xs ≡ sum_by f ys) → xs ≡ ys
one_order [] [] one other sums = refl
one_order [] (y ∷ ys) one other sums = absurd (let count : 0 ≡ 1 + sum_by (λ (t : Text). 1) ys =
    sums (λ t. 1) ∙ sum_by-cons (λ (t : Text). 1) y ys in omega (arith, count))
one_order (x ∷ xs) [] one other sums = absurd (let count : 1 + sum_by (λ (t : Text). 1) xs ≡ 0 =
    sym (sum_by-cons (λ (t : Text). 1) x xs) ∙ sums (λ t. 1) in omega (arith, count))
one_order (x ∷ xs) (y ∷ ys) one other sums =
    let first : x ≡ y = tie x y (least y ys x other (member_by_sums x xs (y ∷ ys) sums))
    (least x xs y one (member_by_sums y ys (x ∷ xs) (λ f. sym (sums f)))) in
    let rest : xs ≡ ys = one_order xs ys (sorted_tail x xs one) (sorted_tail y ys other)
    (λ f. let all : f x + sum_by f xs ≡ f y + sum_by f ys =
    sym (sum_by-cons f x xs) ∙ (sums f ∙ sum_by-cons f y ys) in let same : f x ≡ f y =
    ap f first in omega (arith, all, same)) in
    ap (λ (z : Text). z ∷ xs) first ∙ ap (λ (zs : List Text). y ∷ zs) rest

module _ (o : Declared) where
  one_texts : (q : Cq) (one other : List Text) → AreTexts o q one → AreTexts o q other → one ≡ other
  one_texts q one other a b =
      let members : IsPermutation a.members b.members =
      arranged a.members b.members a.lists.distinct b.lists.distinct
      (λ x there. b.lists.complete x (All-contains (PlainReachable (encoded o) q) a.members x
      a.lists.sound there))
      (λ x there. a.lists.complete x (All-contains (PlainReachable (encoded o) q) b.members x
      b.lists.sound there)) in
      let moved : IsPermutation one other =
      IsPermutation-trans one (map (cq_text o) a.members) other
      (IsPermutation-sym (map (cq_text o) a.members) one a.arranged)
      (IsPermutation-trans (map (cq_text o) a.members) (map (cq_text o) b.members) other
      (IsPermutation-map (cq_text o) a.members b.members members) b.arranged) in
      one_order one other a.sorted b.sorted (λ f. sym (sum_by-IsPermutation f one other moved))

  one_leaf : (leaf : NamedLeaf) (one other : List ℕ) → TellsLeaf o leaf one → TellsLeaf o leaf other
      → one ≡ other
  one_leaf leaf one other a b =
      a.is ∙ (ap (λ (ts : List Text). leaf_line leaf.name leaf.place (length ts) ++ text_lines ts)
      (one_texts leaf.asks a.texts b.texts a.are b.are) ∙ sym b.is)

  one_told : (ls : List NamedLeaf) (one other : List ℕ) → TellsLeaves o ls one
      → TellsLeaves o ls other → one ≡ other
  one_told [] one other a b = a ∙ sym b
  one_told (l ∷ ls) one other (first, rest, leaf, later, is) (first', rest', leaf', later', is') =
      is ∙ (ap (λ (t : List ℕ). t ++ rest)
      (one_leaf l first first' leaf leaf') ∙ (ap (λ (t : List ℕ).
      first' ++ t) (one_told ls rest rest' later later') ∙ sym is'))

pub one_rewriting : OneRewriting
one_rewriting setting one other a b =
    one_told setting.ontology (leaves setting.queries) one other a b
