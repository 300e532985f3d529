-- The antichains that are kept, and their numbers in order of first occurrence.
use Rattle.std.proofs.Common.{◌≡◌, ℕ, zero, suc, ◌^◌, ◌<◌, ◌≤◌, Bool, true, false, cond}
use Rattle.std.proofs.Common.{List, [], ◌∷◌, ◌++◌, length, take, get_or, replicate, refl, sym}
use Rattle.std.proofs.Common.{◌∙◌, ap, subst}
use Rattle.std.proofs.Common.{arith, inl, inr, nat_eq}
use Rattle.std.specs.Prelude.{◌⊎◌, ◌≢◌, All, map, max}
use Rattle.std.specs.List.{Contains, list_any}
use Rattle.std.specs.Cmp.Lexicographic.{pointwise, same_text}
use Rattle.std.proofs.lemmas.Bool.{cases_lt}
use Rattle.std.proofs.lemmas.Bool.Decides.{eqb_tells}
use Rattle.std.proofs.lemmas.List.{get_or-take, get_or_default, length-take-le, map-append}
use Rattle.std.proofs.lemmas.List.{get_or_append_left, length-append}
use Rattle.std.proofs.Math.Seq.{get_or-append_seam}
use Rattle.std.proofs.lemmas.List.Elements.{All-append, All-nil, All-tail}
use Rattle.std.proofs.lemmas.Map.Views.{Contains-from_any}
use Rattle.std.proofs.Math.Seq.{take-suc}
use Rattle.list_lemmas.proofs.Elements.{All-back, All-front}
use Rattle.formula_store.specs.Interned.{interned, interned_all, AreDistinct, Extends}
use Rattle.formula_store.proofs.Lists.{Extends-interned, Extends-refl, Extends-trans}
use Rattle.answer_tables.specs.Lengths.{antichains_in}
use Rattle.answer_tables.specs.Table.{Antichains}
use Rattle.answer_tables.proofs.CountedRuns.{many_antichains}
use Rattle.progression.specs.declared.kept.Kept.{Kept}
use Rattle.checkpoint_text.specs.declared.checkpoint.Stretch.{Stretch}
use Rattle.checkpoint_text.specs.Suspended.{AreInOrder, NodeLists, numbers_in, numbers_of}
use Rattle.checkpoint_text.specs.Suspended.{numbers_of_nodes, seen_behind}
use Rattle.checkpoint_state.specs.Suspending.{all_nodes, antichains_in_all, antichains_of, node_of}
use Rattle.checkpoint_state.specs.Suspending.{nodes_of, number_in, stretches_of}
use Rattle.checkpoint_state.specs.Telling.{drawn_out, list_at}
use Rattle.checkpoint_state.proofs.Interning.{interned_append, interned_often, interned_same}
use Rattle.checkpoint_state.proofs.Interning.{number_found}
use Rattle.checkpoint_state.proofs.Stretching.{HaveSome, number_drawn, stretches_are}

-- ---- numbers for antichains

map_often : (f : ℕ → List ℕ) (n x : ℕ) → map f (replicate n x) ≡ replicate n (f x)
map_often f zero x = refl
map_often f (suc n) x = ap (λ (ys : List (List ℕ)). f x ∷ ys) (map_often f n x)

-- each stretch's antichain goes in once
pub drawn_interned : (f : ℕ → List ℕ) (list : List (List ℕ)) (ss : List Stretch) → HaveSome ss
    → interned_all list (map f (drawn_out ss)) ≡ interned_all list (map f (numbers_in ss))
drawn_interned f list [] some = refl
drawn_interned f list (s ∷ ss) some =
    ap (interned_all list) (map-append f (replicate s.count s.list) (drawn_out ss)
    ∙ ap (λ (xs : List (List ℕ)). xs ++ map f (drawn_out ss)) (map_often f s.count s.list))
    ∙ interned_append list (replicate s.count (f s.list)) (map f (drawn_out ss))
    ∙ ap (λ (l : List (List ℕ)). interned_all l (map f (drawn_out ss)))
    (interned_often list (f s.list) s.count (some zero s (omega arith)))
    ∙ drawn_interned f (interned list (f s.list)) ss
    (All-tail (λ (r : Stretch). 0 < r.count) s ss some)

pub numbers_back : (lists antichains : List (List ℕ)) → All (Contains lists) antichains
    → map (list_at lists) (map (number_in lists) antichains) ≡ antichains
numbers_back lists [] known = refl
numbers_back lists (x ∷ xs) known =
    ap (λ (y : List ℕ). y ∷ map (list_at lists) (map (number_in lists) xs))
    (number_found lists x (known zero x (omega arith))).1
    ∙ ap (λ (ys : List (List ℕ)). x ∷ ys)
    (numbers_back lists xs (All-tail (Contains lists) x xs known))

table_interned : (lists list antichains : List (List ℕ)) → All (Contains lists) antichains
    → interned_all list antichains ≡ interned_all list
    (map (list_at lists) (numbers_in (stretches_of (map (number_in lists) antichains))))
table_interned lists list antichains known =
    let are = stretches_are (map (number_in lists) antichains) in
    ap (interned_all list) (sym (numbers_back lists antichains known))
    ∙ ap (λ (ns : List ℕ). interned_all list (map (list_at lists) ns)) (sym are.drawn)
    ∙ drawn_interned (list_at lists) list (stretches_of (map (number_in lists) antichains)) are.some

pub no_antichains : (table : Antichains) → table.slots ^ table.arity ≡ 0 → antichains_in table ≡ []
no_antichains table none = go (antichains_in table) (many_antichains table ∙ none)
  where
    go : (xs : List (List ℕ)) → length xs ≡ 0 → xs ≡ []
    go [] long = refl
    go (x ∷ xs) long = absurd (omega (arith, long))

abbrev pub has_none : ℕ × Antichains → Bool
has_none entry = nat_eq (entry.1.slots ^ entry.1.arity) 0

-- the nodes with a table without tuples, and with another
pub nodes_none : (lists : List (List ℕ)) (e : ℕ × Antichains) (es : List (ℕ × Antichains))
    → has_none e ≡ true → nodes_of lists (e ∷ es) ≡ nodes_of lists es
nodes_none lists e es none =
    ap (λ (b : Bool). cond b (nodes_of lists es) (node_of lists e ∷ nodes_of lists es)) none

pub nodes_some : (lists : List (List ℕ)) (e : ℕ × Antichains) (es : List (ℕ × Antichains))
    → has_none e ≡ false → nodes_of lists (e ∷ es) ≡ node_of lists e ∷ nodes_of lists es
nodes_some lists e es some =
    ap (λ (b : Bool). cond b (nodes_of lists es) (node_of lists e ∷ nodes_of lists es)) some

nodes_interned : (lists list : List (List ℕ)) (entries : List (ℕ × Antichains))
    → All (Contains lists) (antichains_in_all entries)
    → interned_all list (antichains_in_all entries)
    ≡ interned_all list (map (list_at lists) (numbers_of_nodes (nodes_of lists entries)))
nodes_interned lists list [] known = refl
nodes_interned lists list (e ∷ es) known =
    go (eqb_tells (e.1.slots ^ e.1.arity) 0) (λ l. nodes_interned lists l es back)
  where
    first : List (List ℕ)
    first = antichains_in e.1

    numbers : List ℕ
    numbers = numbers_in (stretches_of (map (number_in lists) first))

    later : List ℕ
    later = numbers_of_nodes (nodes_of lists es)

    front : All (Contains lists) first
    front = All-front (Contains lists) first (antichains_in_all es) known

    back : All (Contains lists) (antichains_in_all es)
    back = All-back (Contains lists) first (antichains_in_all es) known

    Goal : List NodeLists → Type 0
    Goal ns = interned_all list (first ++ antichains_in_all es)
        ≡ interned_all list (map (list_at lists) (numbers_of_nodes ns))

    go : ((has_none e ≡ true) × (e.1.slots ^ e.1.arity ≡ 0))
        ⊎ ((has_none e ≡ false) × (e.1.slots ^ e.1.arity ≢ 0))
        → ((l : List (List ℕ)) → interned_all l (antichains_in_all es)
        ≡ interned_all l (map (list_at lists) later))
        → Goal (nodes_of lists (e ∷ es))
    go (inl none) rest =
        subst Goal (sym (nodes_none lists e es none.0))
        (ap (λ (xs : List (List ℕ)). interned_all list (xs ++ antichains_in_all es))
        (no_antichains e.1 none.1) ∙ rest list)
    go (inr some) rest =
        subst Goal (sym (nodes_some lists e es some.0))
        (interned_append list first (antichains_in_all es)
        ∙ ap (λ (l : List (List ℕ)). interned_all l (antichains_in_all es))
        (table_interned lists list first front)
        ∙ rest (interned_all list (map (list_at lists) numbers))
        ∙ sym (ap (interned_all list) (map-append (list_at lists) numbers later)
        ∙ interned_append list (map (list_at lists) numbers) (map (list_at lists) later)))

-- what is kept goes in as the numbers tell
pub kept_interned : (lists list : List (List ℕ)) (kept : List Kept)
    → All (Contains lists) (antichains_of kept)
    → interned_all list (antichains_of kept)
    ≡ interned_all list (map (list_at lists) (numbers_of (all_nodes lists kept)))
kept_interned lists list [] known = refl
kept_interned lists list (k ∷ ks) known =
    let first : List (List ℕ) = antichains_in_all k.tables.items in
    let numbers : List ℕ = numbers_of_nodes (nodes_of lists k.tables.items) in
    let later : List ℕ = numbers_of (all_nodes lists ks) in
    interned_append list first (antichains_of ks)
    ∙ ap (λ (l : List (List ℕ)). interned_all l (antichains_of ks))
    (nodes_interned lists list k.tables.items
    (All-front (Contains lists) first (antichains_of ks) known))
    ∙ kept_interned lists (interned_all list (map (list_at lists) numbers)) ks
    (All-back (Contains lists) first (antichains_of ks) known)
    ∙ sym (ap (interned_all list) (map-append (list_at lists) numbers later)
    ∙ interned_append list (map (list_at lists) numbers) (map (list_at lists) later))

-- ---- the numbers are those of lists

-- a stretch's number is that of one of the antichains
pub stretch_known : (lists antichains : List (List ℕ)) (s : Stretch)
    → Contains (stretches_of (map (number_in lists) antichains)) s
    → (x : List ℕ) × Contains antichains x × (number_in lists x ≡ s.list)
stretch_known lists antichains s there =
    let are = stretches_are (map (number_in lists) antichains) in
    let drawn = number_drawn (stretches_of (map (number_in lists) antichains)) s are.some there in
    back antichains (subst (λ (ns : List ℕ). Contains ns s.list) are.drawn drawn)
  where
    back : (xs : List (List ℕ)) → Contains (map (number_in lists) xs) s.list
        → (x : List ℕ) × Contains xs x × (number_in lists x ≡ s.list)
    back [] found = absurd (let l = found.1 in omega (arith, l))
    back (x ∷ xs) (zero, within, is) = (x, (zero, omega arith, refl), is)
    back (x ∷ xs) (suc k, within, is) =
        let rest = back xs (k, omega (arith, within), is) in
        (rest.0, (suc rest.1.0, (let l = rest.1.1 in omega (arith, l)), rest.1.2), rest.2)

abbrev pub AreBelow : ℕ → List ℕ → Type 0
AreBelow limit numbers = All (λ n. n < limit) numbers

numbers_below : (limit : ℕ) (ss : List Stretch) → ((s : Stretch) → Contains ss s → s.list < limit)
    → AreBelow limit (numbers_in ss)
numbers_below limit [] each k d within = All-nil (λ (n : ℕ). n < limit) k d within
numbers_below limit (s ∷ ss) each zero d within = each s (zero, omega arith, refl)
numbers_below limit (s ∷ ss) each (suc k) d within =
    numbers_below limit ss (λ r there.
    each r (suc there.0, (let l = there.1 in omega (arith, l)), there.2)) k d
    (omega (arith, within))

pub stretches_below : (lists antichains : List (List ℕ)) → All (Contains lists) antichains
    → (s : Stretch) → Contains (stretches_of (map (number_in lists) antichains)) s
    → s.list < length lists
stretches_below lists antichains known s there =
    let found = stretch_known lists antichains s there in
    let at = found.1 in
    subst (λ (n : ℕ). n < length lists) found.2
    (number_found lists found.0 (subst (Contains lists) at.2 (known at.0 found.0 at.1))).0

nodes_below : (lists : List (List ℕ)) (entries : List (ℕ × Antichains))
    → All (Contains lists) (antichains_in_all entries)
    → AreBelow (length lists) (numbers_of_nodes (nodes_of lists entries))
nodes_below lists [] known = All-nil (λ (n : ℕ). n < length lists)
nodes_below lists (e ∷ es) known =
    go (eqb_tells (e.1.slots ^ e.1.arity) 0) (nodes_below lists es
    (All-back (Contains lists) (antichains_in e.1) (antichains_in_all es) known))
  where
    ss : List Stretch
    ss = stretches_of (map (number_in lists) (antichains_in e.1))

    Goal : List NodeLists → Type 0
    Goal ns = AreBelow (length lists) (numbers_of_nodes ns)

    go : ((has_none e ≡ true) × (e.1.slots ^ e.1.arity ≡ 0))
        ⊎ ((has_none e ≡ false) × (e.1.slots ^ e.1.arity ≢ 0))
        → AreBelow (length lists) (numbers_of_nodes (nodes_of lists es))
        → Goal (nodes_of lists (e ∷ es))
    go (inl none) rest = subst Goal (sym (nodes_none lists e es none.0)) rest
    go (inr some) rest = subst Goal (sym (nodes_some lists e es some.0))
        (All-append (λ (n : ℕ). n < length lists) (numbers_in ss)
        (numbers_of_nodes (nodes_of lists es))
        (numbers_below (length lists) ss
        (stretches_below lists (antichains_in e.1)
        (All-front (Contains lists) (antichains_in e.1) (antichains_in_all es) known))) rest)

pub kept_below : (lists : List (List ℕ)) (kept : List Kept)
    → All (Contains lists) (antichains_of kept)
    → AreBelow (length lists) (numbers_of (all_nodes lists kept))
kept_below lists [] known = All-nil (λ (n : ℕ). n < length lists)
kept_below lists (k ∷ ks) known =
    All-append (λ (n : ℕ). n < length lists) (numbers_of_nodes (nodes_of lists k.tables.items))
    (numbers_of (all_nodes lists ks))
    (nodes_below lists k.tables.items
    (All-front (Contains lists) (antichains_in_all k.tables.items) (antichains_of ks) known))
    (kept_below lists ks
    (All-back (Contains lists) (antichains_in_all k.tables.items) (antichains_of ks) known))

-- ---- order of first occurrence

interned_new : (list : List (List ℕ)) (x : List ℕ) → (Contains list x → ⊥)
    → interned list x ≡ list ++ x ∷ []
interned_new list x none = go (list_any (pointwise nat_eq x) list) refl
  where
    go : (b : Bool) → list_any (pointwise nat_eq x) list ≡ b
        → cond b list (list ++ x ∷ []) ≡ list ++ x ∷ []
    go true found = absurd (none (Contains-from_any {eq = pointwise nat_eq} (λ a b is.
        same_text a b (sym is)) x list found))
    go false found = refl

extends_all : (list xs : List (List ℕ)) → Extends list (interned_all list xs)
extends_all list [] = Extends-refl list
extends_all list (x ∷ xs) =
    Extends-trans list (interned list x) (interned_all (interned list x) xs)
    (Extends-interned list (interned list x) x refl) (extends_all (interned list x) xs)

module _ (lists : List (List ℕ)) (distinct : AreDistinct lists) where
  front_has : (seen n : ℕ) → n < seen → seen ≤ length lists
      → Contains (take seen lists) (list_at lists n)
  front_has seen n below within = (
    n,
    omega (arith, below, length-take-le seen lists within),
    get_or-take seen lists n (list_at lists n) below
        ∙ get_or_default lists n (list_at lists n) [] (omega (arith, below, within)),
  )

  front_lacks : (seen n : ℕ) → seen ≤ n → n < length lists
      → Contains (take seen lists) (list_at lists n) → ⊥
  front_lacks seen n above within (k, below, is) =
      let long : length (take seen lists) ≡ seen =
      length-take-le seen lists (omega (arith, above, within)) in
      let less : k < seen = omega (arith, below, long) in
      let same : get_or lists k [] ≡ list_at lists n =
      get_or_default lists k [] (list_at lists n) (omega (arith, less, above, within))
      ∙ sym (get_or-take seen lists k (list_at lists n) less) ∙ is in
      distinct k n [] (omega (arith, less, above)) within same

  -- one more that occurs in its turn
  step : (seen n : ℕ) → n ≤ seen → n < length lists → seen ≤ length lists
      → interned (take seen lists) (list_at lists n) ≡ take (max seen (suc n)) lists
  step seen n turn within few = go (cases_lt n seen)
    where
      go : (n < seen) ⊎ (seen ≤ n)
          → interned (take seen lists) (list_at lists n) ≡ take (max seen (suc n)) lists
      go (inl below) =
          let same : seen ≡ max seen (suc n) = omega (arith, below) in
          interned_same (take seen lists) (list_at lists n) (front_has seen n below few)
          ∙ ap (λ (k : ℕ). take k lists) same
      go (inr above) =
          let is : n ≡ seen = omega (arith, turn, above) in
          let next : suc n ≡ max seen (suc n) = omega (arith, is) in
          interned_new (take seen lists) (list_at lists n) (front_lacks seen n above within)
          ∙ ap (λ (k : ℕ). take k lists ++ list_at lists n ∷ []) (sym is)
          ∙ sym (take-suc lists n [] within)
          ∙ ap (λ (k : ℕ). take k lists) next

  -- numbers in order of first occurrence bring in the lists in their order
  pub interned_in_order : (seen : ℕ) (ns : List ℕ) → seen ≤ length lists
      → AreBelow (length lists) ns → AreInOrder seen ns
      → interned_all (take seen lists) (map (list_at lists) ns) ≡ take (seen_behind seen ns) lists
  interned_in_order seen [] few below order = refl
  interned_in_order seen (n ∷ ns) few below order =
      let within : n < length lists = below zero n (omega arith) in
      ap (λ (l : List (List ℕ)). interned_all l (map (list_at lists) ns))
      (step seen n order.0 within few)
      ∙ interned_in_order (max seen (suc n)) ns (omega (arith, few, within))
      (All-tail (λ (k : ℕ). k < length lists) n ns below) order.1

  beyond : (seen n : ℕ) (xs : List (List ℕ)) → seen < n → n < length lists
      → lists ≡ interned_all (interned (take seen lists) (list_at lists n)) xs → ⊥
  beyond seen n xs far within is =
      let new : interned (take seen lists) (list_at lists n)
      ≡ take seen lists ++ list_at lists n ∷ [] =
      interned_new (take seen lists) (list_at lists n)
      (front_lacks seen n (omega (arith, far)) within) in
      let grown = extends_all (interned (take seen lists) (list_at lists n)) xs in
      let whole : lists ≡ (take seen lists ++ list_at lists n ∷ []) ++ grown.0 =
      is ∙ grown.1 ∙ ap (λ (l : List (List ℕ)). l ++ grown.0) new in
      let long : length (take seen lists) ≡ seen =
      length-take-le seen lists (omega (arith, far, within)) in
      let there : get_or lists seen [] ≡ list_at lists n =
      ap (λ (l : List (List ℕ)). get_or l seen []) whole
      ∙ get_or_append_left (take seen lists ++ list_at lists n ∷ []) grown.0 [] seen
      (omega (arith, length-append (take seen lists) (list_at lists n ∷ []), long))
      ∙ ap (λ (k : ℕ). get_or (take seen lists ++ list_at lists n ∷ []) k []) (sym long)
      ∙ get_or-append_seam (take seen lists) (list_at lists n) [] [] in
      distinct seen n [] far within there

  -- what came in as the numbers tell has them in order of first occurrence
  pub in_order : (seen : ℕ) (ns : List ℕ) → seen ≤ length lists → AreBelow (length lists) ns
      → lists ≡ interned_all (take seen lists) (map (list_at lists) ns)
      → AreInOrder seen ns × (seen_behind seen ns ≡ length lists)
  in_order seen [] few below is = (
    tt,
    let long : length lists ≡ length (take seen lists) =
        ap (λ (l : List (List ℕ)). length l) is in
        omega (arith, long, length-take-le seen lists few),
  )
  in_order seen (n ∷ ns) few below is =
      go (cases_lt seen n) (λ turn. in_order (max seen (suc n)) ns (omega (arith, few, within))
      (All-tail (λ (k : ℕ). k < length lists) n ns below)
      (is ∙ ap (λ (l : List (List ℕ)). interned_all l (map (list_at lists) ns))
      (step seen n turn within few)))
    where
      within : n < length lists
      within = below zero n (omega arith)

      go : (seen < n) ⊎ (n ≤ seen) → (n ≤ seen → AreInOrder (max seen (suc n)) ns
          × (seen_behind (max seen (suc n)) ns ≡ length lists))
          → AreInOrder seen (n ∷ ns) × (seen_behind seen (n ∷ ns) ≡ length lists)
      go (inl far) rest = absurd (beyond seen n (map (list_at lists) ns) far within is)
      go (inr turn) rest = let found = rest turn in ((turn, found.0), found.1)
