-- What contracts see of a table.
use Rattle.std.proofs.Common.{◌≡◌, ℕ, zero, suc, ◌^◌, ◌<◌, Bool, true, false, cond, ◌&&◌, List, []}
use Rattle.std.proofs.Common.{◌∷◌, length, refl, sym, ◌∙◌, ap, arith, inl, inr, nat_eq}
use Rattle.std.specs.Prelude.{◌≢◌, ◌⊎◌, Option, Some, eqb}
use Rattle.std.specs.List.{Contains}
use Rattle.std.specs.Cmp.Lexicographic.{pointwise}
use Rattle.std.proofs.lemmas.Bool.Decides.{eqb_tells}
use Rattle.dl_syntax.specs.declared.names.IndId.{IndId}
use Rattle.formula_store.proofs.Antichains.{Tested, tested}
use Rattle.answer_tables.specs.declared.run.Run.{Run}
use Rattle.answer_tables.specs.Tuples.{IsTuple, number, tuples}
use Rattle.answer_tables.specs.Table.{Antichains, same_tuple, default_antichain, found, at}
use Rattle.answer_tables.specs.Table.{default_of, differing, exceptions_of, antichain_at, view_of}
use Rattle.answer_tables.proofs.Numbers.{tuple_below, all_tuples, only_tuples}

abbrev SameTuple : List IndId → List IndId → Type 0
SameTuple x y = ((same_tuple x y ≡ true) × (x ≡ y)) ⊎ ((same_tuple x y ≡ false) × (x ≢ y))

abbrev ind : ℕ → IndId
ind n = record { 0 = n }

same_tuple_tells : (x y : List IndId) → SameTuple x y
same_tuple_tells [] [] = inl (refl, refl)
same_tuple_tells [] (j ∷ y) = inr (
  refl,
  λ e. let l = ap (λ (t : List IndId). length t) e in
      omega (arith, l),
)
same_tuple_tells (i ∷ x) [] = inr (
  refl,
  λ e. let l = ap (λ (t : List IndId). length t) e in
      omega (arith, l),
)
same_tuple_tells (i ∷ x) (j ∷ y) = go (eqb_tells i.0 j.0) (same_tuple_tells x y)
  where
    first_of : List IndId → ℕ
    first_of [] = 0
    first_of (k ∷ t) = k.0

    rest_of : List IndId → List IndId
    rest_of [] = []
    rest_of (k ∷ t) = t

    go : ((eqb i.0 j.0 ≡ true) × (i.0 ≡ j.0)) ⊎ ((eqb i.0 j.0 ≡ false) × (i.0 ≢ j.0))
        → SameTuple x y → SameTuple (i ∷ x) (j ∷ y)
    go (inl same) (inl rest) =
        inl (
          ap (λ (b : Bool). b && same_tuple x y) same.0 ∙ rest.0,
          ap (λ (n : ℕ).
              ind n ∷ x) same.1 ∙ ap (λ (t : List IndId). j ∷ t) rest.1,
        )
    go (inl same) (inr other) =
        inr (ap (λ (b : Bool). b && same_tuple x y) same.0 ∙ other.0, λ e. other.1 (cc))
    go (inr differ) rest = inr (
      ap (λ (b : Bool). b && same_tuple x y) differ.0,
      λ e.
          differ.1 (let heads : i ≡ j = cc in ap (λ (k : IndId). k.0) heads),
    )

found_antichain : (antichain : List IndId
    → List ℕ) (usual : List ℕ) (ts : List (List IndId)) (t : List IndId)
    → Contains ts t ⊎ (usual ≡ antichain t)
    → found t (differing antichain usual ts) usual ≡ antichain t
found_antichain antichain usual [] t (inl (k, within, is)) = absurd (omega (arith, within))
found_antichain antichain usual [] t (inr same) = same
found_antichain antichain usual (x ∷ ts) t there =
    go (tested (antichain x) usual) (λ later. found_antichain antichain usual ts t later)
  where
    later : (x ≡ t → Contains ts t ⊎ (usual ≡ antichain t))
        → Contains (x ∷ ts) t ⊎ (usual ≡ antichain t) → Contains ts t ⊎ (usual ≡ antichain t)
    later first (inl (zero, within, is)) = first is
    later first (inl (suc k, within, is)) = inl (k, omega (arith, within), is)
    later first (inr same) = inr same

    here : SameTuple x t → (Contains ts t ⊎ (usual ≡ antichain t)
        → found t (differing antichain usual ts) usual ≡ antichain t)
        → found t ((x, antichain x) ∷ differing antichain usual ts) usual ≡ antichain t
    here (inl same) rest = ap (λ (b : Bool).
        cond b (antichain x) (found t (differing antichain usual ts) usual)) same.0 ∙ ap antichain
        same.1
    here (inr other) rest = ap (λ (b : Bool).
        cond b (antichain x) (found t (differing antichain usual ts) usual)) other.0 ∙ rest
        (later (λ is. absurd (other.1 is)) there)

    go : Tested (antichain x) usual → (Contains ts t ⊎ (usual ≡ antichain t)
        → found t (differing antichain usual ts) usual ≡ antichain t)
        → found t (differing antichain usual (x ∷ ts)) usual ≡ antichain t
    go (inl same) rest =
        ap (λ (b : Bool). found t (cond b (differing antichain usual ts)
        ((x, antichain x) ∷ differing antichain usual ts)) usual) same.0
        ∙ rest (later (λ is. inr (sym same.1 ∙ ap antichain is)) there)
    go (inr other) rest =
        ap (λ (b : Bool). found t (cond b (differing antichain usual ts)
        ((x, antichain x) ∷ differing antichain usual ts)) usual) other.0
        ∙ here (same_tuple_tells x t) rest

-- a tuple has the antichain at its number
pub at_view : (slots arity : ℕ) (links : List (List ℕ)) (runs : List Run) (tuple : List IndId)
    → IsTuple slots arity tuple → at (view_of slots arity links runs) tuple
    ≡ antichain_at links runs (number slots tuple)
unfolding at default_of exceptions_of
at_view slots arity links runs tuple is =
    let antichain : List IndId → List ℕ = λ t. antichain_at links runs (number slots t) in
    found_antichain antichain (default_antichain (default_of antichain (tuples slots arity)))
    (tuples slots arity) tuple (inl (all_tuples slots arity tuple is))

default_same : (f g : List IndId → List ℕ) (ts : List (List IndId))
    → ((t : List IndId) → Contains ts t → f t ≡ g t) → default_of f ts ≡ default_of g ts
unfolding default_of
default_same f g [] same = refl
default_same f g (t ∷ ts) same = ap Some (same t (zero, omega arith, refl))

differing_same : (f g : List IndId → List ℕ) (usual : List ℕ) (ts : List (List IndId))
    → ((t : List IndId) → Contains ts t → f t ≡ g t) → differing f usual ts ≡ differing g usual ts
differing_same f g usual [] same = refl
differing_same f g usual (t ∷ ts) same =
    let rest : differing f usual ts ≡ differing g usual ts =
    differing_same f g usual ts (λ u there.
    same u (suc there.0, (let l = there.1 in omega (arith, l)), there.2)) in
    let first : f t ≡ g t = same t (zero, omega arith, refl) in
    ap (λ (c : List ℕ). cond (pointwise nat_eq c usual) (differing f usual ts)
    ((t, c) ∷ differing f usual ts)) first
    ∙ ap (λ (es : List (List IndId × List ℕ)).
    cond (pointwise nat_eq (g t) usual) es ((t, g t) ∷ es)) rest

exceptions_same : (f g : List IndId → List ℕ) (ts : List (List IndId))
    → ((t : List IndId) → Contains ts t → f t ≡ g t) → exceptions_of f ts ≡ exceptions_of g ts
unfolding exceptions_of
exceptions_same f g ts same =
    ap (λ (o : Option (List ℕ)). differing f (default_antichain o) ts)
    (default_same f g ts same) ∙ differing_same f g (default_antichain (default_of g ts)) ts
    same

-- tables with the same antichain at each rank are one
pub view_same : (slots arity : ℕ) (links links' : List (List ℕ)) (runs runs' : List Run)
    → ((n : ℕ) → n < slots ^ arity → antichain_at links runs n ≡ antichain_at links' runs' n)
    → view_of slots arity links runs ≡ view_of slots arity links' runs'
view_same slots arity links links' runs runs' same =
    let f : List IndId → List ℕ = λ t. antichain_at links runs (number slots t) in
    let g : List IndId → List ℕ = λ t. antichain_at links' runs' (number slots t) in
    let each : (t : List IndId) → Contains (tuples slots arity) t
    → f t ≡ g t = λ t there. same (number slots t)
    (tuple_below slots arity t (only_tuples slots arity t there)) in
    let with_default : Option (List ℕ) → Antichains =
    λ o. record {
      slots = slots;
      arity = arity;
      default = o;
      exceptions =
          exceptions_of f (tuples slots arity);
    } in
    let with_exceptions : List (List IndId × List ℕ)
    → Antichains = λ es. record {
      slots = slots;
      arity = arity;
      default =
          default_of g (tuples slots arity);
      exceptions = es;
    } in
    ap with_default (default_same f g (tuples slots arity) each) ∙ ap with_exceptions
    (exceptions_same f g (tuples slots arity) each)
