-- What is kept is no longer than the units of the queries.
use Rattle.std.proofs.Common.{◌≡◌, ℕ, zero, suc, ◌+◌, ◌*◌, ◌-◌, ◌^◌, ◌<◌, ◌≤◌, Bool, List, [], ◌∷◌}
use Rattle.std.proofs.Common.{◌++◌, length, map, refl, sym, ◌∙◌, ap, subst, inl, inr, arith}
use Rattle.std.specs.Prelude.{◌⊎◌, if◌then◌else◌}
use Rattle.std.specs.List.{Contains, sum_by}
use Rattle.std.proofs.Math.Nat.{pow-zero, pow-succ'}
use Rattle.std.proofs.lemmas.Bool.{cases_lt}
use Rattle.std.proofs.lemmas.List.{length-map, get_or_past}
use Rattle.std.proofs.lemmas.List.Elements.{All-head, All-tail, Contains-append_left}
use Rattle.std.proofs.lemmas.List.Elements.{Contains-append_right}
use Rattle.std.proofs.lemmas.List.Sums.{sum_by-cons, sum_by-append}
use Rattle.dl_syntax.specs.declared.names.IndId.{IndId}
use Rattle.dl_syntax.specs.declared.ontology.Inclusion.{Inclusion}
use Rattle.list_lemmas.proofs.Elements.{Contains-none, Contains-first, Contains-cons_cases}
use Rattle.list_lemmas.proofs.Maps.{Contains-map}
use Rattle.tcq_syntax.specs.Formula.{Formula, False, formulas, formula_at}
use Rattle.tcq_syntax.specs.Tcq.{Tcq}
use Rattle.tcq_syntax.specs.Histories.{History, individuals_of, slots_of}
use Rattle.tcq_syntax.specs.End.{EndHolds}
use Rattle.tcq_syntax.specs.Answers.{IsRow}
use Rattle.tcq_syntax.specs.Sizes.{futures, units, units_of}
use Rattle.tcq_syntax.specs.Kept.{IsKeptAt, IsKeptSize}
use Rattle.tcq_syntax.specs.Laws.{ClosedKeptSize, OpenKeptSize}
use Rattle.tcq_syntax.proofs.OneList.{one_minimal}
use Rattle.tcq_syntax.proofs.Tables.{length-formulas}
use Rattle.tcq_syntax.proofs.Weights.{weight-le, rising-le, numbers, length-numbers}
use Rattle.tcq_syntax.proofs.Weights.{numbers-contain, pairs, length-pairs}
use Rattle.tcq_syntax.proofs.Weights.{pairs-contain, sum_by-same}

-- the rows of so many numbers below the bound
abbrev with_first : ℕ × List IndId → List IndId
with_first parts = record { 0 = parts.0 } ∷ parts.1

abbrev rows_below : ℕ → ℕ → List (List IndId)
rows_below bound zero = [] ∷ []
rows_below bound (suc vars) = map with_first (pairs (numbers bound) (rows_below bound vars))

length-rows_below : (bound vars : ℕ) → length (rows_below bound vars) ≡ bound ^ vars
length-rows_below bound zero = sym (pow-zero bound)
length-rows_below bound (suc vars) =
    length-map (pairs (numbers bound) (rows_below bound vars)) with_first ∙ length-pairs
    (numbers bound) (rows_below bound vars)
    ∙ ap (λ (n : ℕ). n * length (rows_below bound vars)) (length-numbers bound) ∙ ap (λ (n : ℕ).
    bound * n) (length-rows_below bound vars) ∙ sym (pow-succ' bound vars)

rows_below-contain : (bound vars : ℕ) (row : List IndId) → IsRow bound vars row
    → Contains (rows_below bound vars) row
rows_below-contain bound zero [] is = Contains-first [] []
rows_below-contain bound zero (i ∷ row) is = absurd (omega (arith, is.0))
rows_below-contain bound (suc vars) [] is = absurd (omega (arith, is.0))
rows_below-contain bound (suc vars) (i ∷ row) is =
    let first : i.0 < bound = All-head (λ (j : IndId). j.0 < bound) i row is.1 in
    let rest : Contains (rows_below bound vars) row =
    rows_below-contain bound vars row
    (omega (arith, is.0), All-tail (λ (j : IndId). j.0 < bound) i row is.1) in
    Contains-map with_first (pairs (numbers bound) (rows_below bound vars)) (i.0, row)
    (pairs-contain (numbers bound) (rows_below bound vars) (i.0, row)
    (numbers-contain bound i.0 first) rest)

-- what is kept at a query, a node and a row, and how many sets there are of the query's future
-- nodes
abbrev Key : Type 0
Key = Tcq × ℕ × List IndId

abbrev sets_of : Key → ℕ
sets_of key = 2 ^ futures key.0.nodes

abbrev at_query : Tcq → ℕ × List IndId → Key
at_query query parts = (query, parts.0, parts.1)

abbrev query_keys : ℕ → Tcq → List Key
query_keys bound query = map (at_query query)
    (pairs (numbers (length query.nodes)) (rows_below bound query.vars))

abbrev keys : ℕ → List Tcq → List Key
keys bound [] = []
keys bound (query ∷ queries) = query_keys bound query ++ keys bound queries

map-each : (X Y : Type 0) (P : Y → Type 0) (f : X → Y) (xs : List X) → ((x : X) → P (f x)) → (y : Y)
    → Contains (map f xs) y → P y
map-each X Y P f [] each y there = absurd (Contains-none y there)
map-each X Y P f (x ∷ xs) each y there = elim (Contains-cons_cases (f x) (map f xs) y there) [
  | inl same ↦ subst P same (each x)
  | inr later ↦ map-each X Y P f xs each y later
]

query_weight : (bound : ℕ) (query : Tcq)
    → sum_by sets_of (query_keys bound query) ≡ units_of bound query
query_weight bound query =
    sum_by-same sets_of (2 ^ futures query.nodes) (query_keys bound query)
    (map-each (ℕ × List IndId) Key (λ key. sets_of key
    ≡ 2 ^ futures query.nodes) (at_query query)
    (pairs (numbers (length query.nodes)) (rows_below bound query.vars)) (λ parts. refl))
    ∙ ap (λ (n : ℕ). n * 2 ^ futures query.nodes) counted
  where
    counted : length (query_keys bound query) ≡ length query.nodes * bound ^ query.vars
    counted =
        length-map (pairs (numbers (length query.nodes)) (rows_below bound query.vars))
        (at_query query) ∙ length-pairs (numbers (length query.nodes))
        (rows_below bound query.vars)
        ∙ ap (λ (n : ℕ). n * length (rows_below bound query.vars))
        (length-numbers (length query.nodes)) ∙ ap (λ (n : ℕ).
        length query.nodes * n) (length-rows_below bound query.vars)

weight : (bound : ℕ) (queries : List Tcq)
    → sum_by sets_of (keys bound queries) ≡ units bound queries
weight bound [] = refl
weight bound (query ∷ queries) =
    omega (
      arith,
      sum_by-append sets_of (query_keys bound query) (keys bound queries),
      query_weight
          bound query,
      weight bound queries,
      sum_by-cons (units_of bound) query queries,
    )

keys-contain : (bound : ℕ) (queries : List Tcq) (query : Tcq) (place : ℕ) (row : List IndId)
    → Contains queries query → place < length query.nodes → IsRow bound query.vars row
    → Contains (keys bound queries) (query, place, row)
keys-contain bound [] query place row there below is = absurd (Contains-none query there)
keys-contain bound (first ∷ queries) query place row there below is =
    elim (Contains-cons_cases first queries query there) [
      | inl same ↦ Contains-append_left (query_keys bound first) (keys bound queries)
          (query, place, row) (subst (λ (q : Tcq).
          Contains (query_keys bound q) (query, place, row)) (sym same) here)
      | inr later ↦ Contains-append_right (query_keys bound first) (keys bound queries)
          (query, place, row) (keys-contain bound queries query place row later below is)
    ]
  where
    here : Contains (query_keys bound query) (query, place, row)
    here = Contains-map (at_query query)
        (pairs (numbers (length query.nodes)) (rows_below bound query.vars)) (place, row)
        (pairs-contain (numbers (length query.nodes)) (rows_below bound query.vars) (place, row)
        (numbers-contain (length query.nodes) place below)
        (rows_below-contain bound query.vars row is))

module _ (inclusions : List Inclusion) (count : ℕ) (history : History) where
  abbrev IsAt : Key → List ℕ → Type 0
  IsAt key sets = IsKeptAt inclusions count history key.0 key.1 key.2 sets

  one_at : (key : Key) (one other : List ℕ) → IsAt key one → IsAt key other → one ≡ other
  one_at key one other first second =
      one_minimal inclusions history (futures key.0.nodes) (formula_at key.0.nodes key.1) key.2 one
      other first.minimal second.minimal

  few_sets : (key : Key) (sets : List ℕ) → IsAt key sets → length sets ≤ sets_of key
  few_sets key sets is = rising-le (2 ^ futures key.0.nodes) sets is.minimal.rising (λ v there.
      ((is.minimal.member v).0 there).0)

  -- behind the table no set is minimal
  past_nothing : (key : Key) (sets : List ℕ) → length key.0.nodes ≤ key.1 → IsAt key sets
      → length sets ≡ 0
  past_nothing key [] past is = refl
  past_nothing key (v ∷ sets) past is =
      let no_formula : formula_at key.0.nodes key.1 ≡ False =
      get_or_past (formulas key.0.nodes) key.1 False
      (omega (arith, length-formulas key.0.nodes)) in
      absurd (subst (λ (f : Formula).
      EndHolds inclusions history v key.2 f (length history.snapshots - 1)) no_formula
      ((is.minimal.member v).0 (Contains-first v sets)).1)

  kept_size-le : (queries : List Tcq) (size : ℕ) → IsKeptSize inclusions count history queries size
      → size ≤ units (slots_of count history) queries
  kept_size-le queries size (lists, kept, is) =
      omega (
        arith,
        is,
        weight slots queries,
        weight-le (List ℕ) Key length sets_of IsAt one_at
            few_sets lists (keys slots queries) kept.distinct keyed,
      )
    where
      slots : ℕ
      slots = slots_of count history

      keyed : (sets : List ℕ) → Contains lists sets
          → (length sets ≡ 0) ⊎ ((key : Key) × Contains (keys slots queries) key × IsAt key sets)
      keyed sets there = go ((kept.member sets).0 there)
        where
          go : (query : Tcq) × (place : ℕ) × (row : List IndId) × Contains queries query
              × IsKeptAt inclusions count history query place row sets
              → (length sets ≡ 0) ⊎ ((key : Key) × Contains (keys slots queries) key
              × IsAt key sets)
          go (query, place, row, member, at) = elim (cases_lt place (length query.nodes)) [
            | inl inside ↦
                inr (
                  (query, place, row),
                  keys-contain slots queries query place row member inside
                      at.row_of_slots,
                  at,
                )
            | inr past ↦ inl (past_nothing (query, place, row) sets past at)
          ]

pub closed_kept_size : ClosedKeptSize
closed_kept_size inclusions count history queries size closed kept =
    let same : slots_of count history ≡ individuals_of count history =
    ap (λ (b : Bool). individuals_of count history + (if b then 0 else 1)) closed ∙ omega
    arith in
    subst (λ (n : ℕ). size ≤ units n queries) same
    (kept_size-le inclusions count history queries size kept)

pub open_kept_size : OpenKeptSize
open_kept_size inclusions count history queries size open_still kept =
    let same : slots_of count history ≡ individuals_of count history + 1 =
    ap (λ (b : Bool). individuals_of count history + (if b then 0 else 1)) open_still in
    subst (λ (n : ℕ). size ≤ units n queries) same
    (kept_size-le inclusions count history queries size kept)
