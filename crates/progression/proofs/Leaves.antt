-- The leaves of a table of nodes, and the tables of their answers.
use Rattle.std.proofs.Common.{◌≡◌, ℕ, zero, suc, ◌+◌, ◌<◌, Bool, true, false, ◌||◌, cond, bit_and}
use Rattle.std.proofs.Common.{List, [], ◌∷◌, length, take, get_or, map, refl, sym, ◌∙◌, ap, subst}
use Rattle.std.proofs.Common.{arith, inl, inr, eq-eqb}
use Rattle.std.specs.Prelude.{Option, ◌↔◌, Some, Result, Ok, Err, IfOk, slice_get, slice_index_or}
use Rattle.std.specs.Prelude.{nat_eq, unwrap_or}
use Rattle.std.specs.List.{All, AllPairs, AllZip, Contains, count_by, list_any}
use Rattle.std.proofs.lemmas.Bool.{false≢true, eqb-true}
use Rattle.std.proofs.lemmas.List.{get_or-map, length-map, get_or_default}
use Rattle.std.proofs.lemmas.List.Elements.{All-head, All-tail, Contains-get_or}
use Rattle.std.proofs.lemmas.List.Sums.{sum_by-append}
use Rattle.std.proofs.lemmas.Option.{none-some}
use Rattle.std.proofs.lemmas.Nat.{and_comm}
use Rattle.std.specs.Int.Bits.{and_zero_r}
use Rattle.dl_syntax.specs.declared.names.IndId.{IndId}
use Rattle.dl_syntax.specs.declared.queries.Cq.{Cq}
use Rattle.dl_syntax.specs.declared.queries.Term.{Term}
use Rattle.dl_syntax.specs.declared.queries.Term.TheVariants.{Var, Ind}
use Rattle.dl_syntax.specs.Rows.{Relation}
use Rattle.list_lemmas.proofs.Elements.{Contains-none, Contains-first, Contains-later}
use Rattle.list_lemmas.proofs.Elements.{Contains-cons_cases}
use Rattle.tcq_syntax.specs.declared.nodes.Node.{Node}
use Rattle.tcq_syntax.specs.declared.nodes.Node.TheVariants as node
use Rattle.tcq_syntax.specs.Tcq.{IsLeaf}
use Rattle.tcq_syntax.specs.Time.{part_of}
use Rattle.antichains.specs.Antichain.{IsMinimal}
use Rattle.antichains.proofs.Minimal.{IsMinimal-one, IsMinimal-none}
use Rattle.antichains.specs.Sets.{is_inside}
use Rattle.answer_tables.specs.Tuples.{IsTuple}
use Rattle.answer_tables.specs.Table.{Antichains, at, same_tuple}
use Rattle.answer_tables.specs.Combining.{LinksAreIn}
use Rattle.answer_tables.specs.Marks.{part_on}
use Rattle.progression.specs.Tables.{Tabulates, has_part, variable_of, is_leaf, leaf_number}
use Rattle.progression.specs.Tables.{leaves_of, relation_at, IsOverLeaf}
use Rattle.progression.proofs.Exact.{and_cases, and_both, or_cases, or_left, or_right}

same_tuple-refl : (x : List IndId) → same_tuple x x ≡ true
same_tuple-refl [] = refl
same_tuple-refl (i ∷ x) = and_both (nat_eq i.0 i.0) (same_tuple x x) (eq-eqb i.0 i.0 refl)
    (same_tuple-refl x)

same_tuple-same : (x y : List IndId) → same_tuple x y ≡ true → x ≡ y
same_tuple-same [] [] same = refl
same_tuple-same [] (j ∷ y) same = absurd (false≢true same)
same_tuple-same (i ∷ x) [] same = absurd (false≢true same)
same_tuple-same (i ∷ x) (j ∷ y) same =
    let parts = and_cases (nat_eq i.0 j.0) (same_tuple x y) same in
    let first : i ≡ j = ap (λ (n : ℕ). record { 0 = n }) (eqb-true i.0 j.0 parts.0) in
    let rest : x ≡ y = same_tuple-same x y parts.1 in
    ap (λ (k : IndId). k ∷ x) first ∙ ap (λ (z : List IndId). j ∷ z) rest

one_more : (x : List IndId) (rows : List (List IndId)) (row : List IndId)
    → (list_any (same_tuple row) rows ≡ true) ↔ Contains rows row
    → (list_any (same_tuple row) (x ∷ rows) ≡ true) ↔ Contains (x ∷ rows) row
one_more x rows row rest = (to, from)
  where
    to : (same_tuple row x || list_any (same_tuple row) rows) ≡ true → Contains (x ∷ rows) row
    to h = elim (or_cases (same_tuple row x) (list_any (same_tuple row) rows) h) [
      | inl first ↦ subst (λ (y : List IndId).
          Contains (y ∷ rows) row) (same_tuple-same row x first) (Contains-first row rows)
      | inr later ↦ Contains-later x rows row (rest.0 later)
    ]

    from : Contains (x ∷ rows) row → (same_tuple row x || list_any (same_tuple row) rows) ≡ true
    from h = elim (Contains-cons_cases x rows row h) [
      | inl first ↦ or_left (same_tuple row x) (list_any (same_tuple row) rows)
          (subst (λ (y : List IndId). same_tuple row y ≡ true) (sym first) (same_tuple-refl row))
      | inr later ↦ or_right (same_tuple row x) (list_any (same_tuple row) rows) (rest.1 later)
    ]

-- the search finds exactly what is there
pub any_row : (rows : List (List IndId)) (row : List IndId)
    → (list_any (same_tuple row) rows ≡ true) ↔ Contains rows row
any_row [] row = (λ h. absurd (false≢true h), λ h. absurd (Contains-none row h))
any_row (x ∷ rows) row = one_more x rows row (any_row rows row)

abbrev is_var : Term → Bool
is_var (Var v) = true
is_var (Ind i) = false

-- the part on the numbers of a head of variables
part_same : (head : List Term) → All (λ x. (v : ℕ) × (x ≡ Var v)) head → (tuple : List IndId)
    → part_on (map variable_of head) tuple ≡ part_of tuple head
part_same [] vars tuple = refl
part_same (Var v ∷ head) vars tuple =
    ap (λ (rest : List IndId). slice_index_or tuple v (record { 0 = 0 }) ∷ rest)
    (part_same head (All-tail (λ x. (v : ℕ) × (x ≡ Var v)) (Var v) head vars) tuple)
part_same (Ind i ∷ head) vars tuple =
    absurd (ind_var i (All-head (λ x. (v : ℕ) × (x ≡ Var v)) (Ind i) head vars))
  where
    ind_var : (i : IndId) → (v : ℕ) × (Ind i ≡ Var v) → ⊥
    ind_var i h = false≢true (ap is_var h.1)

everywhere : IsMinimal (λ v. true) (0 ∷ [])
everywhere =
    let one : IsMinimal (is_inside 0) (0 ∷ []) = IsMinimal-one 0 (omega arith) in
    record {
      antichain = one.antichain;
      same =
          λ v small. one.same v small ∙ eq-eqb (bit_and 0 v) 0 (and_comm 0 v ∙ and_zero_r v);
    }

module _ (vars : ℕ) (q : Cq) (leaf : IsLeaf vars q) (places : List ℕ) (places_are : places
    ≡ map variable_of q.head) where
  abbrev numbers : List ℕ
  numbers = map variable_of q.head

  var_at : (i : ℕ) (d : Term) → i < length q.head
      → get_or q.head i d ≡ Var (get_or (map variable_of q.head) i 0)
  var_at i d within =
      let is = leaf.head.variables i d within in
      let number : get_or (map variable_of q.head) i 0 ≡ is.0 =
      get_or-map variable_of q.head i d 0 within ∙ ap variable_of is.1 in
      is.1 ∙ ap Var (sym number)

  long : length (map variable_of q.head) ≡ length q.head
  long = length-map q.head variable_of

  pub places_rise : AllPairs (λ p r. p < r) places
  places_rise = subst (AllPairs (λ (p r : ℕ). p < r)) (sym places_are) rise
    where
      rise : AllPairs (λ p r. p < r) numbers
      rise i j d before within =
          let short : j < length q.head = omega (arith, within, long) in
          let less : get_or numbers i 0 < get_or numbers j 0 =
          leaf.head.rising i j (Var 0) before short (get_or numbers i 0) (get_or numbers j 0)
          (var_at i (Var 0) (omega (arith, before, short))) (var_at j (Var 0) short) in
          let first : get_or numbers i d ≡ get_or numbers i 0 =
          get_or_default numbers i d 0 (omega (arith, before, within)) in
          let second : get_or numbers j d ≡ get_or numbers j 0 =
          get_or_default numbers j d 0 within in
          omega (arith, less, first, second)

  numbers_within : All (λ p. p < vars) numbers
  numbers_within i d within =
      let short : i < length q.head = omega (arith, within, long) in
      let there : Contains q.head (Var (get_or numbers i 0)) =
      subst (Contains q.head) (var_at i (Var 0) short)
      (Contains-get_or q.head i (Var 0) short) in
      let same : get_or numbers i d ≡ get_or numbers i 0 = get_or_default numbers i d 0 within in
      let less = ((leaf.head.member (get_or numbers i 0)).0 there).0 in
      omega (arith, less, same)

  pub places_within : All (λ p. p < vars) places
  places_within = subst (All (λ (p : ℕ). p < vars)) (sym places_are) numbers_within

  -- the numbers are small
  pub small_variables : vars < 256 → All (λ x. variable_of x < 256) q.head
  small_variables small i d within = let less : get_or numbers i 0 < vars =
      numbers_within i 0 (omega (arith, within, long)) in
      let same : variable_of (get_or q.head i d) ≡ get_or numbers i 0 =
      sym (get_or-map variable_of q.head i d 0 within) in omega (arith, less, same, small)

  pub places_many : (relation : Relation) → IsOverLeaf q relation → length places ≡ relation.arity
  places_many relation over = ap length places_are ∙ long ∙ sym over.arity

  pub Tabulates-leaf : {E : Type 0} (slots : ℕ) (rows : List (List IndId)) (list : List (List ℕ))
      (r : Result Antichains E) → IfOk r (λ t. t.slots ≡ slots) → IfOk r (λ t. t.arity ≡ vars)
      → IfOk r (λ t. (tuple : List IndId) → IsTuple slots vars tuple
      → Contains rows (part_on places tuple) → at t tuple ≡ 0 ∷ [])
      → IfOk r (λ t. (tuple : List IndId) → IsTuple slots vars tuple
      → ¬ Contains rows (part_on places tuple) → at t tuple ≡ []) → IfOk r (λ t. LinksAreIn t list)
      → IfOk r (Tabulates slots vars (λ tuple v. has_part rows q tuple) list)
  Tabulates-leaf slots rows list (Err e) slots_are arity_is held others stored = tt
  Tabulates-leaf slots rows list (Ok t) slots_are arity_is held others stored =
      record {
        slots_are = slots_are;
        arity_is = arity_is;
        each =
            λ tuple tup. go tuple tup (has_part rows q tuple) refl;
        stored = stored;
      }
    where
      part : (tuple : List IndId) → part_on places tuple ≡ part_of tuple q.head
      part tuple = ap (λ (ps : List ℕ). part_on ps tuple) places_are ∙ part_same q.head
          leaf.head.variables tuple

      go : (tuple : List IndId) → IsTuple slots vars tuple → (b : Bool) → has_part rows q tuple ≡ b
          → IsMinimal (λ v. has_part rows q tuple) (at t tuple)
      go tuple tup true is =
          subst (λ (b : Bool). IsMinimal (λ v. b) (at t tuple)) (sym is)
          (subst (IsMinimal (λ v. true))
          (sym (held tuple tup (subst (Contains rows) (sym (part tuple))
          ((any_row rows (part_of tuple q.head)).0 is)))) everywhere)
      go tuple tup false is =
          subst (λ (b : Bool). IsMinimal (λ v. b) (at t tuple)) (sym is)
          (subst (IsMinimal (λ v. false))
          (sym (others tuple tup (λ there.
          false≢true (sym is ∙ (any_row rows (part_of tuple q.head)).1
          (subst (Contains rows) (part tuple) there))))) IsMinimal-none)

no_leaf : (n : Node) (nodes : List Node) → is_leaf n ≡ false
    → leaves_of (n ∷ nodes) ≡ leaves_of nodes
no_leaf (node.Leaf q) nodes other = absurd (false≢true (sym other))
no_leaf _ nodes other = refl

leaf_counted : (n : Node) (nodes : List Node) (place : ℕ)
    → leaf_number (n ∷ nodes) (suc place) ≡ cond (is_leaf n) 1 0 + leaf_number nodes place
leaf_counted n nodes place =
    let whole = sum_by-append (λ x. cond (is_leaf x) 1 0) (n ∷ []) (take place nodes) in
    let one : count_by is_leaf (n ∷ []) ≡ cond (is_leaf n) 1 0 = single (is_leaf n) in
    whole ∙ ap (λ (k : ℕ). k + leaf_number nodes place) one
  where
    single : (b : Bool) → 0 + cond b 1 0 ≡ cond b 1 0
    single true = omega arith
    single false = omega arith

module _ (R : Cq → Relation → Type 0) where
  abbrev AtLeaf : List Relation → ℕ → Cq → Type 0
  AtLeaf relations number q = (number < length relations) × R q (relation_at relations number)

  first_leaf : (q : Cq) (nodes : List Node) (relations : List Relation)
      → AllZip R (q ∷ leaves_of nodes) relations → AtLeaf relations 0 q
  first_leaf q nodes [] zip = absurd zip
  first_leaf q nodes (r ∷ relations) zip = (omega arith, zip.0)

  behind : (nodes : List Node) (number : ℕ) (q : Cq)
      → ((relations : List Relation) → AllZip R (leaves_of nodes) relations
      → AtLeaf relations number q) → (n : Node) (relations : List Relation)
      → AllZip R (leaves_of (n ∷ nodes)) relations
      → AtLeaf relations (cond (is_leaf n) 1 0 + number) q
  behind nodes number q rest (node.Leaf p) [] zip = absurd zip
  behind nodes number q rest (node.Leaf p) (r ∷ relations) zip = let deeper =
      rest relations zip.1 in let one : suc number ≡ 1 + number = omega arith in
      subst (λ (k : ℕ). AtLeaf (r ∷ relations) k q) one (omega (arith, deeper.0), deeper.1)
  behind nodes number q rest _ relations zip = let same : number ≡ 0 + number = omega arith in
      subst (λ (k : ℕ). AtLeaf relations k q) same (rest relations zip)

  -- what holds of all leaves and their relations, holds of a leaf at a place and the one with its
  -- number
  pub leaf_at : (nodes : List Node) (relations : List Relation)
      → AllZip R (leaves_of nodes) relations → (place : ℕ) (q : Cq)
      → slice_get nodes place ≡ Some (node.Leaf q) → AtLeaf relations (leaf_number nodes place) q
  leaf_at [] relations zip place q at = absurd (none-some (node.Leaf q) at)
  leaf_at (n ∷ nodes) relations zip zero q at =
      let is : n ≡ node.Leaf q = ap (λ (o : Option Node). unwrap_or o n) at in
      first_leaf q nodes relations (subst (λ (m : Node).
      AllZip R (leaves_of (m ∷ nodes)) relations) is zip)
  leaf_at (n ∷ nodes) relations zip (suc place) q at =
      subst (λ (k : ℕ). AtLeaf relations k q) (sym (leaf_counted n nodes place))
      (behind nodes (leaf_number nodes place) q (λ others part.
      leaf_at nodes others part place q at) n relations zip)
