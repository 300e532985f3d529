-- The antichains of the default and of the exceptions, by rank.
use Rattle.std.proofs.Common.{◌≡◌, ℕ, zero, suc, ◌+◌, ◌-◌, ◌*◌, ◌^◌, ◌<◌, ◌≤◌, Bool, cond, List, []}
use Rattle.std.proofs.Common.{◌∷◌, ◌++◌, length, replicate, refl, sym, ◌∙◌, ap, subst, arith, inl}
use Rattle.std.proofs.Common.{inr, nat_eq, length-append}
use Rattle.std.specs.Prelude.{◌⊎◌, ◌↔◌, ◌≢◌, Option, Some, map, slice_index_or}
use Rattle.std.specs.List.{Contains}
use Rattle.std.specs.Cmp.Lexicographic.{pointwise}
use Rattle.std.proofs.lemmas.Bool.{cases_lt}
use Rattle.std.proofs.lemmas.List.{append-nil}
use Rattle.std.proofs.Math.Nat.{pow-suc, pow-zero}
use Rattle.dl_syntax.specs.declared.names.IndId.{IndId}
use Rattle.list_lemmas.proofs.Elements.{Contains-first, Contains-later, Contains-cons_cases}
use Rattle.formula_store.specs.Interned.{AreDistinct}
use Rattle.formula_store.proofs.Antichains.{Tested, tested}
use Rattle.answer_tables.specs.declared.run.Run.{Run}
use Rattle.answer_tables.specs.Tuples.{number, with_first, tuples}
use Rattle.answer_tables.specs.Table.{Antichains, default_antichain, default_of, differing}
use Rattle.answer_tables.specs.Table.{exceptions_of, default_links, links_of, antichain_at, view_of}
use Rattle.answer_tables.specs.Table.{HasAntichain}
use Rattle.answer_tables.proofs.Numbers.{only_tuples, tuple_below, tuple_at}
use Rattle.answer_tables.proofs.Views.{at_view}

-- the antichains from a rank on that differ from one
abbrev pub others : (ℕ → List ℕ) → List ℕ → ℕ → ℕ → List (List ℕ)
others antichain usual start zero = []
others antichain usual start (suc k) =
    cond (pointwise nat_eq (antichain start) usual) (others antichain usual (suc start) k)
    (antichain start ∷ others antichain usual (suc start) k)

others_next : (antichain : ℕ → List ℕ) (usual : List ℕ) (start k : ℕ)
    → (((antichain start ≡ usual)
    × (others antichain usual start (suc k) ≡ others antichain usual (suc start) k))
    ⊎ ((antichain start ≢ usual)
    × (others antichain usual start (suc k)
    ≡ antichain start ∷ others antichain usual (suc start) k)))
others_next antichain usual start k = go (tested (antichain start) usual)
  where
    go : Tested (antichain start) usual
        → (((antichain start ≡ usual)
        × (others antichain usual start (suc k) ≡ others antichain usual (suc start) k))
        ⊎ ((antichain start ≢ usual)
        × (others antichain usual start (suc k)
        ≡ antichain start ∷ others antichain usual (suc start) k)))
    go (inl same) = inl (
      same.1,
      ap (λ (b : Bool).
          cond b (others antichain usual (suc start) k)
          (antichain start ∷ others antichain usual (suc start) k)) same.0,
    )
    go (inr other) = inr (
      other.1,
      ap (λ (b : Bool).
          cond b (others antichain usual (suc start) k)
          (antichain start ∷ others antichain usual (suc start) k)) other.0,
    )

pub others_split : (antichain : ℕ → List ℕ) (usual : List ℕ) (start a b : ℕ)
    → others antichain usual start (a + b)
    ≡ others antichain usual start a ++ others antichain usual (start + a) b
others_split antichain usual start zero b =
    ap (others antichain usual start) (omega arith) ∙ ap (λ (s : ℕ).
    others antichain usual s b) (omega arith)
others_split antichain usual start (suc a) b =
    ap (others antichain usual start) (let e : suc a + b ≡ suc (a + b) = omega arith in e)
    ∙ go (others_next antichain usual start (a + b)) (others_next antichain usual start a)
    (others_split antichain usual (suc start) a b ∙ ap (λ (s : ℕ).
    others antichain usual (suc start) a ++ others antichain usual s b) (omega arith))
  where
    More : ℕ → Type 0
    More k = (((antichain start ≡ usual)
        × (others antichain usual start (suc k) ≡ others antichain usual (suc start) k))
        ⊎ ((antichain start ≢ usual)
        × (others antichain usual start (suc k)
        ≡ antichain start ∷ others antichain usual (suc start) k)))

    go : More (a + b) → More a → others antichain usual (suc start) (a + b)
        ≡ others antichain usual (suc start) a ++ others antichain usual (start + suc a) b
        → others antichain usual start (suc (a + b))
        ≡ others antichain usual start (suc a) ++ others antichain usual (start + suc a) b
    go (inl one) (inl two) rest =
        one.1 ∙ rest ∙ ap (λ (xs : List (List ℕ)).
        xs ++ others antichain usual (start + suc a) b) (sym two.1)
    go (inl one) (inr two) rest = absurd (two.0 one.0)
    go (inr one) (inl two) rest = absurd (one.0 two.0)
    go (inr one) (inr two) rest =
        one.1 ∙ ap (λ (xs : List (List ℕ)). antichain start ∷ xs) rest ∙ ap (λ (xs : List (List ℕ)).
        xs ++ others antichain usual (start + suc a) b) (sym two.1)

pub others_same : (antichain : ℕ → List ℕ) (usual : List ℕ) (start k : ℕ)
    → ((n : ℕ) → start ≤ n → n < start + k → antichain n ≡ usual)
    → others antichain usual start k ≡ []
others_same antichain usual start zero same = refl
others_same antichain usual start (suc k) same =
    go (others_next antichain usual start k)
    (others_same antichain usual (suc start) k (λ n from below.
    same n (omega (arith, from)) (omega (arith, below))))
  where
    go : (((antichain start ≡ usual)
        × (others antichain usual start (suc k) ≡ others antichain usual (suc start) k))
        ⊎ ((antichain start ≢ usual)
        × (others antichain usual start (suc k)
        ≡ antichain start ∷ others antichain usual (suc start) k)))
        → others antichain usual (suc start) k ≡ [] → others antichain usual start (suc k) ≡ []
    go (inl one) rest = one.1 ∙ rest
    go (inr one) rest = absurd (one.0 (same start (omega arith) (omega arith)))

pub others_differ : (antichain : ℕ → List ℕ) (usual x : List ℕ) (start k : ℕ) → x ≢ usual
    → ((n : ℕ) → start ≤ n → n < start + k → antichain n ≡ x)
    → others antichain usual start k ≡ replicate k x
others_differ antichain usual x start zero differ same = refl
others_differ antichain usual x start (suc k) differ same =
    go (others_next antichain usual start k)
    (others_differ antichain usual x (suc start) k differ (λ n from below.
    same n (omega (arith, from)) (omega (arith, below))))
  where
    here : antichain start ≡ x
    here = same start (omega arith) (omega arith)

    go : (((antichain start ≡ usual)
        × (others antichain usual start (suc k) ≡ others antichain usual (suc start) k))
        ⊎ ((antichain start ≢ usual)
        × (others antichain usual start (suc k)
        ≡ antichain start ∷ others antichain usual (suc start) k)))
        → others antichain usual (suc start) k ≡ replicate k x
        → others antichain usual start (suc k) ≡ replicate (suc k) x
    go (inl one) rest = absurd (differ (sym here ∙ one.0))
    go (inr one) rest = one.1 ∙ ap (λ (y : List ℕ).
        y ∷ others antichain usual (suc start) k) here ∙ ap (λ (xs : List (List ℕ)). x ∷ xs) rest

others_from : (antichain : ℕ → List ℕ) (usual : List ℕ) (start k : ℕ) (x : List ℕ)
    → Contains (others antichain usual start k) x → (n : ℕ) × (n < start + k) × (antichain n ≡ x)
others_from antichain usual start zero x there = absurd (let l = there.1 in omega (arith, l))
others_from antichain usual start (suc k) x there =
    go (others_next antichain usual start k) (λ more.
    others_from antichain usual (suc start) k x more)
  where
    later : (n : ℕ) × (n < suc start + k) × (antichain n ≡ x)
        → (n : ℕ) × (n < start + suc k) × (antichain n ≡ x)
    later found = (found.0, (let l = found.1 in omega (arith, l)), found.2)

    go : (((antichain start ≡ usual)
        × (others antichain usual start (suc k) ≡ others antichain usual (suc start) k))
        ⊎ ((antichain start ≢ usual)
        × (others antichain usual start (suc k)
        ≡ antichain start ∷ others antichain usual (suc start) k)))
        → (Contains (others antichain usual (suc start) k) x
        → (n : ℕ) × (n < suc start + k) × (antichain n ≡ x))
        → (n : ℕ) × (n < start + suc k) × (antichain n ≡ x)
    go (inl one) rest = later (rest (subst (λ (xs : List (List ℕ)). Contains xs x) one.1 there))
    go (inr one) rest =
        elim (Contains-cons_cases (antichain start) (others antichain usual (suc start) k) x
        (subst (λ (xs : List (List ℕ)). Contains xs x) one.1 there)) [
          | inl same ↦ (start, omega arith, same)
          | inr more ↦ later (rest more)
        ]

others_all : (antichain : ℕ → List ℕ) (usual : List ℕ) (start k n : ℕ) → start ≤ n → n < start + k
    → (usual ≡ antichain n) ⊎ Contains (others antichain usual start k) (antichain n)
others_all antichain usual start zero n from below = absurd (omega (arith, from, below))
others_all antichain usual start (suc k) n from below =
    go (others_next antichain usual start k) (cases_lt start n) (λ above.
    others_all antichain usual (suc start) k n above (omega (arith, below)))
  where
    go : (((antichain start ≡ usual)
        × (others antichain usual start (suc k) ≡ others antichain usual (suc start) k))
        ⊎ ((antichain start ≢ usual)
        × (others antichain usual start (suc k)
        ≡ antichain start ∷ others antichain usual (suc start) k))) → (start < n) ⊎ (n ≤ start)
        → (suc start ≤ n → (usual ≡ antichain n)
        ⊎ Contains (others antichain usual (suc start) k) (antichain n))
        → (usual ≡ antichain n) ⊎ Contains (others antichain usual start (suc k)) (antichain n)
    go (inl one) (inl more) rest = elim (rest more) [
      | inl same ↦ inl same
      | inr there ↦
          inr (subst (λ (xs : List (List ℕ)). Contains xs (antichain n)) (sym one.1) there)
    ]
    go (inr one) (inl more) rest = elim (rest more) [
      | inl same ↦ inl same
      | inr there ↦
          inr (subst (λ (xs : List (List ℕ)).
          Contains xs (antichain n)) (sym one.1)
          (Contains-later (antichain start) (others antichain usual (suc start) k) (antichain n)
          there))
    ]
    go (inl one) (inr here) rest = let is : start ≡ n = omega (arith, from, here) in
        inl (sym one.0 ∙ ap antichain is)
    go (inr one) (inr here) rest =
        let is : start ≡ n = omega (arith, from, here) in
        inr (subst (λ (xs : List (List ℕ)).
        Contains xs (antichain n)) (sym one.1)
        (subst (Contains (antichain start ∷ others antichain usual (suc start) k))
        (ap antichain is) (Contains-first (antichain start)
        (others antichain usual (suc start) k))))

-- tuples of consecutive numbers
abbrev pub InARow : ℕ → ℕ → List (List IndId) → Type 0
InARow slots start [] = Unit {0}
InARow slots start (t ∷ ts) = (number slots t ≡ start) × InARow slots (suc start) ts

InARow-append : (slots start : ℕ) (xs ys : List (List IndId)) → InARow slots start xs
    → InARow slots (start + length xs) ys → InARow slots start (xs ++ ys)
InARow-append slots start [] ys front back = subst (λ (s : ℕ). InARow slots s ys) (omega arith) back
InARow-append slots start (x ∷ xs) ys front back = (
  front.0,
  InARow-append slots (suc start) xs ys front.1
      (subst (λ (s : ℕ). InARow slots s ys) (omega arith) back),
)

abbrev put : ℕ → List IndId → List IndId
put n rest = (record { 0 = n }) ∷ rest

InARow-put : (slots k start n : ℕ) (rests : List (List IndId))
    → ((t : List IndId) → Contains rests t → length t ≡ k) → InARow slots start rests
    → InARow slots (n * slots ^ k + start) (map (put n) rests)
InARow-put slots k start n [] long row = tt
InARow-put slots k start n (t ∷ rests) long row =
    let power : n * slots ^ length t ≡ n * slots ^ k =
    ap (λ (m : ℕ). n * slots ^ m) (long t (Contains-first t rests)) in (
      omega (arith, power, row.0),
      subst (λ (s : ℕ). InARow slots s (map (put n) rests)) (omega arith)
          (InARow-put slots k (suc start) n rests (λ u there.
          long u (Contains-later t rests u there)) row.1),
    )

length_map : {A B : Type 0} (f : A → B) (xs : List A) → length (map f xs) ≡ length xs
length_map f [] = refl
length_map f (x ∷ xs) = ap suc (length_map f xs)

first_many : (n : ℕ) (rests : List (List IndId)) → length (with_first n rests) ≡ n * length rests
first_many zero rests = omega arith
first_many (suc n) rests = length-append (with_first n rests) (map (put n) rests) ∙ ap (λ (m : ℕ).
    length (with_first n rests) + m) (length_map (put n) rests) ∙ ap (λ (m : ℕ).
    m + length rests) (first_many n rests) ∙ omega arith

pub tuples_many : (slots arity : ℕ) → length (tuples slots arity) ≡ slots ^ arity
tuples_many slots zero = sym (pow-zero slots)
tuples_many slots (suc arity) =
    first_many slots (tuples slots arity) ∙ ap (λ (m : ℕ).
    slots * m) (tuples_many slots arity) ∙ (let e : slots * slots ^ arity ≡ slots ^ arity * slots =
    omega arith in e) ∙ sym (pow-suc slots arity)

first_row : (slots k n : ℕ) (rests : List (List IndId)) → length rests ≡ slots ^ k
    → ((t : List IndId) → Contains rests t → length t ≡ k) → InARow slots 0 rests
    → InARow slots 0 (with_first n rests)
first_row slots k zero rests many long row = tt
first_row slots k (suc n) rests many long row =
    let start : n * slots ^ k + 0 ≡ 0 + length (with_first n rests) =
    sym (ap (λ (m : ℕ). 0 + m) (first_many n rests) ∙ ap (λ (m : ℕ).
    0 + n * m) many ∙ omega arith) in
    InARow-append slots 0 (with_first n rests) (map (put n) rests)
    (first_row slots k n rests many long row)
    (subst (λ (s : ℕ). InARow slots s (map (put n) rests)) start
    (InARow-put slots k 0 n rests long row))

pub tuples_row : (slots arity : ℕ) → InARow slots 0 (tuples slots arity)
tuples_row slots zero = (refl, tt)
tuples_row slots (suc arity) =
    first_row slots arity slots (tuples slots arity) (tuples_many slots arity) (λ t there.
    (only_tuples slots arity t there).0) (tuples_row slots arity)

-- the exceptions' antichains by rank
differing_others : (slots : ℕ) (antichain : ℕ
    → List ℕ) (usual : List ℕ) (start : ℕ) (ts : List (List IndId)) → InARow slots start ts
    → map (λ e. e.1) (differing (λ t. antichain (number slots t)) usual ts)
    ≡ others antichain usual start (length ts)
differing_others slots antichain usual start [] row = refl
differing_others slots antichain usual start (t ∷ ts) row =
    go (others_next antichain usual start (length ts)) (tested (antichain (number slots t)) usual)
    (differing_others slots antichain usual (suc start) ts row.1)
  where
    here : antichain (number slots t) ≡ antichain start
    here = ap antichain row.0

    rest : List (List IndId × List ℕ)
    rest = differing (λ u. antichain (number slots u)) usual ts

    go : (((antichain start ≡ usual)
        × (others antichain usual start (suc (length ts))
        ≡ others antichain usual (suc start) (length ts)))
        ⊎ ((antichain start ≢ usual)
        × (others antichain usual start (suc (length ts))
        ≡ antichain start ∷ others antichain usual (suc start) (length ts))))
        → Tested (antichain (number slots t)) usual
        → map (λ e. e.1) rest ≡ others antichain usual (suc start) (length ts)
        → map (λ e. e.1) (differing (λ u. antichain (number slots u)) usual (t ∷ ts))
        ≡ others antichain usual start (suc (length ts))
    go (inl one) (inl two) more =
        ap (λ (b : Bool). map (λ e. e.1) (cond b rest ((t, antichain (number slots t)) ∷ rest)))
        two.0 ∙ more ∙ sym one.1
    go (inl one) (inr two) more = absurd (two.1 (here ∙ one.0))
    go (inr one) (inl two) more = absurd (one.0 (sym here ∙ two.1))
    go (inr one) (inr two) more =
        ap (λ (b : Bool). map (λ e. e.1) (cond b rest ((t, antichain (number slots t)) ∷ rest)))
        two.0 ∙ ap (λ (xs : List (List ℕ)). antichain (number slots t) ∷ xs) more ∙ ap
        (λ (x : List ℕ). x ∷ others antichain usual (suc start) (length ts)) here ∙ sym one.1

default_first : (slots : ℕ) (antichain : ℕ → List ℕ) (ts : List (List IndId)) → InARow slots 0 ts
    → 0 < length ts → default_of (λ t. antichain (number slots t)) ts ≡ Some (antichain 0)
unfolding default_of
default_first slots antichain [] row some = absurd (omega (arith, some))
default_first slots antichain (t ∷ ts) row some = ap (λ (n : ℕ). Some (antichain n)) row.0

pub links_view : (slots arity : ℕ) (links : List (List ℕ)) (runs : List Run) → 0 < slots ^ arity
    → links_of (view_of slots arity links runs)
    ≡ antichain_at links runs 0 ∷ others (antichain_at links runs) (antichain_at links runs 0) 0
    (slots ^ arity)
unfolding exceptions_of
links_view slots arity links runs some =
    let antichain : ℕ → List ℕ = antichain_at links runs in
    let f : List IndId → List ℕ = λ t. antichain (number slots t) in
    let ts : List (List IndId) = tuples slots arity in
    let usual : default_of f ts ≡ Some (antichain 0) =
    default_first slots antichain ts (tuples_row slots arity)
    (omega (arith, some, tuples_many slots arity)) in
    ap (λ (o : Option (List ℕ)). default_links o
    ++ map (λ e. e.1) (differing f (default_antichain o) ts)) usual
    ∙ ap (λ (xs : List (List ℕ)). antichain 0 ∷ xs)
    (differing_others slots antichain (antichain 0) 0 ts (tuples_row slots arity) ∙ ap
    (others antichain (antichain 0) 0) (tuples_many slots arity))

no_tuples : (ts : List (List IndId)) → length ts ≡ 0 → ts ≡ []
no_tuples [] none = refl
no_tuples (t ∷ ts) none = absurd (omega (arith, none))

pub links_view_none : (slots arity : ℕ) (links : List (List ℕ)) (runs : List Run)
    → slots ^ arity ≡ 0 → links_of (view_of slots arity links runs) ≡ []
unfolding default_of exceptions_of
links_view_none slots arity links runs none =
    let f : List IndId → List ℕ = λ t. antichain_at links runs (number slots t) in
    ap (λ (ts : List (List IndId)). default_links (default_of f ts)
    ++ map (λ e. e.1) (differing f (default_antichain (default_of f ts)) ts))
    (no_tuples (tuples slots arity) (tuples_many slots arity ∙ none))

-- the antichains are those of the tuples
pub links_exact : (slots arity : ℕ) (links : List (List ℕ)) (runs : List Run) (v : Antichains)
    (list : List (List ℕ)) → view_of slots arity links runs ≡ v → 0 < slots ^ arity
    → list ≡ antichain_at links runs 0 ∷ others (antichain_at links runs)
    (antichain_at links runs 0) 0 (slots ^ arity) → (antichain : List ℕ)
    → Contains list antichain ↔ HasAntichain v antichain
links_exact slots arity links runs v list view some is x =
    subst (λ (w : Antichains). Contains list x
    ↔ HasAntichain w x) view (subst (λ (xs : List (List ℕ)). Contains xs x
    ↔ HasAntichain (view_of slots arity links runs) x) (sym is) (
      λ there.
          to (Contains-cons_cases (antichain 0) rest x there),
      from,
    ))
  where
    antichain : ℕ → List ℕ
    antichain = antichain_at links runs

    rest : List (List ℕ)
    rest = others (antichain_at links runs) (antichain_at links runs 0) 0 (slots ^ arity)

    has : (n : ℕ) → n < slots ^ arity → antichain n ≡ x
        → HasAntichain (view_of slots arity links runs) x
    has n below same = let found = tuple_at slots arity n below in (
      found.0,
      found.1,
      at_view slots arity links runs found.0 found.1 ∙ ap antichain
          found.2 ∙ same,
    )

    to : (antichain 0 ≡ x) ⊎ Contains rest x → HasAntichain (view_of slots arity links runs) x
    to (inl first) = has 0 some first
    to (inr later) = let found = others_from antichain (antichain 0) 0 (slots ^ arity) x later in
        has found.0 (let l = found.1 in omega (arith, l)) found.2

    from : HasAntichain (view_of slots arity links runs) x → Contains (antichain 0 ∷ rest) x
    from (tuple, tup, same) =
        let told : antichain (number slots tuple) ≡ x =
        sym (at_view slots arity links runs tuple tup) ∙ same in
        subst (Contains (antichain 0 ∷ rest)) told
        (elim (others_all antichain (antichain 0) 0 (slots ^ arity) (number slots tuple)
        (omega arith) (let below = tuple_below slots arity tuple tup in omega (arith, below))) [
          | inl first ↦ subst (Contains (antichain 0 ∷ rest)) first
              (Contains-first (antichain 0) rest)
          | inr later ↦ Contains-later (antichain 0) rest (antichain (number slots tuple)) later
        ])

pub links_exact_none : (slots arity : ℕ) (links : List (List ℕ)) (runs : List Run) (v : Antichains)
    (list : List (List ℕ)) → view_of slots arity links runs ≡ v → slots ^ arity ≡ 0 → list ≡ []
    → (antichain : List ℕ) → Contains list antichain ↔ HasAntichain v antichain
links_exact_none slots arity links runs v list view none is x =
    subst (λ (w : Antichains). Contains list x ↔ HasAntichain w x) view (
      (λ there. absurd (let l = there.1 in
          omega (arith, l, ap (λ (xs : List (List ℕ)). length xs) is))),
      (λ (tuple, tup, same). absurd (omega (arith, tuple_below slots arity tuple tup, none))),
    )

-- links of different numbers have different antichains
pub numbers_apart : (links : List (List ℕ)) (a b : ℕ) → AreDistinct links → a < length links
    → b < length links → ¬ (a ≡ b) → slice_index_or links a [] ≢ slice_index_or links b []
numbers_apart links a b distinct in_a in_b differ same = go (cases_lt a b) (cases_lt b a)
  where
    go : (a < b) ⊎ (b ≤ a) → (b < a) ⊎ (a ≤ b) → ⊥
    go (inl less) other = distinct a b [] less in_b same
    go (inr from) (inl more) = distinct b a [] more in_a (sym same)
    go (inr from) (inr to) = differ (omega (arith, from, to))

-- past one more run, of the default or of another antichain
others_to : (antichain : ℕ → List ℕ) (usual : List ℕ) (start end : ℕ) → start ≤ end
    → others antichain usual 0 end ≡ others antichain usual 0 start
    ++ others antichain usual start (end - start)
others_to antichain usual start end up =
    ap (others antichain usual 0) (let e : end ≡ start + (end - start) = omega (arith, up) in
    e) ∙ others_split antichain usual 0 start (end - start)
    ∙ ap (λ (s : ℕ). others antichain usual 0 start ++ others antichain usual s (end - start))
    (let e : 0 + start ≡ start = omega arith in e)

pub others_run_same : (antichain : ℕ
    → List ℕ) (usual : List ℕ) (list : List (List ℕ)) (start end : ℕ) → start ≤ end
    → list ≡ usual ∷ others antichain usual 0 start
    → ((n : ℕ) → start ≤ n → n < end → antichain n ≡ usual)
    → list ≡ usual ∷ others antichain usual 0 end
others_run_same antichain usual list start end up is each =
    is ∙ ap (λ (xs : List (List ℕ)). usual ∷ xs)
    (sym (others_to antichain usual start end up ∙ ap (λ (xs : List (List ℕ)).
    others antichain usual 0 start ++ xs)
    (others_same antichain usual start (end - start) (λ n from below.
    each n from (omega (arith, below, up)))) ∙ append-nil (others antichain usual 0 start)))

pub others_run_differ : (antichain : ℕ
    → List ℕ) (usual x : List ℕ) (list new : List (List ℕ)) (start end : ℕ) → start ≤ end
    → list ≡ usual ∷ others antichain usual 0 start → x ≢ usual
    → ((n : ℕ) → start ≤ n → n < end → antichain n ≡ x) → new ≡ list ++ replicate (end - start) x
    → new ≡ usual ∷ others antichain usual 0 end
others_run_differ antichain usual x list new start end up is differ each more =
    more ∙ ap (λ (xs : List (List ℕ)). xs ++ replicate (end - start) x) is
    ∙ ap (λ (xs : List (List ℕ)). usual ∷ xs)
    (sym (others_to antichain usual start end up ∙ ap (λ (xs : List (List ℕ)).
    others antichain usual 0 start ++ xs)
    (others_differ antichain usual x start (end - start) differ (λ n from below.
    each n from (omega (arith, below, up))))))
