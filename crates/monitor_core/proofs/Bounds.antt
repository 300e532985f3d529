-- The lists of sets that are kept are no longer in all than the units of the queries.
use Rattle.std.proofs.Common.{◌≡◌, ℕ, zero, suc, ◌*◌, ◌^◌, ◌<◌, ◌≤◌, List, [], ◌∷◌, ◌++◌, length}
use Rattle.std.proofs.Common.{get_or, refl, sym, ◌∙◌, ap, subst, inl, inr, arith, bit_or}
use Rattle.std.specs.Prelude.{All, AllPairs}
use Rattle.std.specs.List.{AllZip, Contains, sum_by}
use Rattle.std.proofs.Math.Nat.{mul-le-mul_left}
use Rattle.std.proofs.Math.Pow.{pow-lt}
use Rattle.std.proofs.lemmas.Nat.{or_lt, pow_pos}
use Rattle.std.proofs.lemmas.List.Elements.{All-contains, All-weaker, Contains-append_left}
use Rattle.std.proofs.lemmas.List.Elements.{Contains-append_right}
use Rattle.std.proofs.lemmas.List.Sums.{sum_by-append, sum_by-cons, sum_by-le}
use Rattle.list_lemmas.proofs.Elements.{Contains-none, Contains-first, Contains-later}
use Rattle.list_lemmas.proofs.Elements.{Contains-cons_cases, All-from_contains}
use Rattle.tcq_syntax.specs.Formula.{Formula, True, False, Leaf, And, Or, Next, WeakNext, Prev}
use Rattle.tcq_syntax.specs.Formula.{WeakPrev, Until, Since, Eventually, Always, Once, Historically}
use Rattle.tcq_syntax.specs.Formula.{formula_at}
use Rattle.tcq_syntax.specs.Tcq.{Tcq, IsTcq}
use Rattle.tcq_syntax.specs.End.{EachFuture, Inside, future_set}
use Rattle.tcq_syntax.specs.Sizes.{futures, units_of, units}
use Rattle.tcq_syntax.proofs.Sets.{Inside-le}
use Rattle.tcq_syntax.proofs.Trees.{children_are_below}
use Rattle.antichains.specs.Antichain.{IsAntichain}
use Rattle.antichains.proofs.Few.{few_sets}
use Rattle.answer_tables.specs.Table.{Antichains, HasAntichain}
use Rattle.answer_tables.proofs.Few.{total-le, antichains_of, antichains_many, antichains_has}
use Rattle.answer_tables.proofs.Few.{antichains_only}
use Rattle.progression.specs.Step.{HasNumberBelow}
use Rattle.progression.specs.Tables.{no_table}
use Rattle.progression.specs.declared.kept.Kept.{Kept}
use Rattle.progression.specs.Kept.{Fits, FitsNode}
use Rattle.progression.proofs.NextKept.{named, kept_of_query}
use Rattle.monitor_core.specs.Keeping.{KeepsOf, KeepsAntichain, IsStoreOf}

-- the future parts of a formula whose numbers are below a limit make a number below the limit's
-- power
pub future_set-below : (limit : ℕ) (f : Formula) → EachFuture (HasNumberBelow limit) f
    → future_set f < 2 ^ limit
future_set-below limit True w = pow_pos limit
future_set-below limit False w = pow_pos limit
future_set-below limit (Leaf q) w = pow_pos limit
future_set-below limit (And f g) w =
    or_lt limit (future_set f) (future_set g) (future_set-below limit f w.0)
    (future_set-below limit g w.1)
future_set-below limit (Or f g) w =
    or_lt limit (future_set f) (future_set g) (future_set-below limit f w.0)
    (future_set-below limit g w.1)
future_set-below limit (Next k f) w =
    or_lt limit (2 ^ k) (future_set f) (pow-lt w.0) (future_set-below limit f w.1)
future_set-below limit (WeakNext k f) w =
    or_lt limit (2 ^ k) (future_set f) (pow-lt w.0) (future_set-below limit f w.1)
future_set-below limit (Prev f) w = future_set-below limit f w
future_set-below limit (WeakPrev f) w = future_set-below limit f w
future_set-below limit (Until k f g) w =
    or_lt limit (2 ^ k) (bit_or (future_set f) (future_set g)) (pow-lt w.0)
    (or_lt limit (future_set f) (future_set g) (future_set-below limit f w.1)
    (future_set-below limit g w.2))
future_set-below limit (Since f g) w =
    or_lt limit (future_set f) (future_set g) (future_set-below limit f w.0)
    (future_set-below limit g w.1)
future_set-below limit (Eventually k f) w =
    or_lt limit (2 ^ k) (future_set f) (pow-lt w.0) (future_set-below limit f w.1)
future_set-below limit (Always k f) w =
    or_lt limit (2 ^ k) (future_set f) (pow-lt w.0) (future_set-below limit f w.1)
future_set-below limit (Once f) w = future_set-below limit f w
future_set-below limit (Historically f) w = future_set-below limit f w

-- places that rise below a limit are at most as many
at_least : (entries : List (ℕ × Antichains)) → AllPairs (λ e later. e.0 < later.0) entries
    → (place : ℕ) (d : ℕ × Antichains) → place < length entries → place ≤ (get_or entries place d).0
at_least entries rising zero d within = omega arith
at_least entries rising (suc place) d within =
    omega (
      arith,
      at_least entries rising place d (omega (arith, within)),
      rising place (suc place)
          d (omega arith) within,
    )

few_entries : (limit : ℕ) (entries : List (ℕ × Antichains))
    → AllPairs (λ e later. e.0 < later.0) entries → All (λ e. e.0 < limit) entries
    → length entries ≤ limit
few_entries limit entries rising small = by_length (length entries) refl
  where
    by_length : (n : ℕ) → length entries ≡ n → n ≤ limit
    by_length zero long = omega arith
    by_length (suc n) long =
        let within : n < length entries = omega (arith, long) in
        omega (arith, at_least entries rising n (0, no_table) within, small n (0, no_table) within)

-- the antichain of each tuple of each table
all_antichains : List (ℕ × Antichains) → List (List ℕ)
all_antichains [] = []
all_antichains (e ∷ entries) = antichains_of e.1 ++ all_antichains entries

kept_antichains : List Kept → List (List ℕ)
kept_antichains [] = []
kept_antichains (k ∷ kept) = all_antichains k.tables.items ++ kept_antichains kept

all_has : (entries : List (ℕ × Antichains)) (e : ℕ × Antichains) (antichain : List ℕ)
    → Contains entries e → HasAntichain e.1 antichain → Contains (all_antichains entries) antichain
unfolding all_antichains
all_has [] e antichain there has = absurd (Contains-none e there)
all_has (x ∷ entries) e antichain there has = elim (Contains-cons_cases x entries e there) [
  | inl same ↦ Contains-append_left (antichains_of x.1) (all_antichains entries) antichain
      (antichains_has x.1 antichain (subst (λ (y : ℕ × Antichains).
      HasAntichain y.1 antichain) (sym same) has))
  | inr later ↦ Contains-append_right (antichains_of x.1) (all_antichains entries) antichain
      (all_has entries e antichain later has)
]

kept_has : (kept : List Kept) (antichain : List ℕ) → KeepsAntichain kept antichain
    → Contains (kept_antichains kept) antichain
unfolding kept_antichains
kept_has [] antichain (k, there, keeps) = absurd (Contains-none k there)
kept_has (x ∷ kept) antichain (k, there, keeps) = elim (Contains-cons_cases x kept k there) [
  | inl same ↦ Contains-append_left (all_antichains x.tables.items) (kept_antichains kept) antichain
      (first same)
  | inr later ↦ Contains-append_right (all_antichains x.tables.items) (kept_antichains kept)
      antichain (kept_has kept antichain (k, later, keeps))
]
  where
    first : x ≡ k → Contains (all_antichains x.tables.items) antichain
    first same =
        let own : KeepsOf x antichain =
        subst (λ (y : Kept). KeepsOf y antichain) (sym same) keeps in
        all_has x.tables.items (own.0, own.1) antichain own.2 own.3

module _ (individuals : ℕ) (query : Tcq) (is : IsTcq query.vars query.nodes) where
  -- the rows, and the sets of future nodes, of one node
  abbrev rows : ℕ
  rows = individuals ^ query.vars

  abbrev sets : ℕ
  sets = 2 ^ futures query.nodes

  antichain_few : (place : ℕ) (antichain : List ℕ) → IsAntichain antichain
      → All (λ set. Inside set (future_set (formula_at query.nodes place))) antichain
      → length antichain ≤ sets
  antichain_few place antichain antichain_is own =
      let most : future_set (formula_at query.nodes place) < sets =
      future_set-below (futures query.nodes) (formula_at query.nodes place)
      (named query.nodes (children_are_below query.vars query.nodes is).0 place) in
      few_sets (futures query.nodes) antichain antichain_is
      (All-weaker (λ set. Inside set (future_set (formula_at query.nodes place))) (λ set.
      set < sets) (λ set inside.
      omega (arith, most, Inside-le set (future_set (formula_at query.nodes place)) inside))
      antichain own)

  table_few : (place : ℕ) (table : Antichains) → FitsNode query individuals place table
      → ((antichain : List ℕ) → HasAntichain table antichain → IsAntichain antichain)
      → sum_by length (antichains_of table) ≤ rows * sets
  table_few place table fits antichains =
      let each : All (λ antichain. length antichain ≤ sets) (antichains_of table) =
      All-from_contains (λ antichain. length antichain ≤ sets) (antichains_of table)
      (λ antichain there. short antichain (antichains_only table antichain there)) in
      subst (λ (n : ℕ). sum_by length (antichains_of table) ≤ n * sets) many
      (sum_by-le length sets (antichains_of table) each)
    where
      many : length (antichains_of table) ≡ rows
      many = antichains_many table ∙ ap (λ (n : ℕ). n ^ table.arity) fits.slots_are ∙ ap (λ (n : ℕ).
          individuals ^ n) fits.arity_is

      short : (antichain : List ℕ) → HasAntichain table antichain → length antichain ≤ sets
      short antichain has =
          let row = subst (λ (n : ℕ). (length has.0 ≡ query.vars)
          × All (λ i. i.0 < n) has.0) fits.slots_are (subst (λ (v : ℕ). (length has.0 ≡ v)
          × All (λ i. i.0 < table.slots) has.0) fits.arity_is has.1) in
          antichain_few place antichain (antichains antichain has)
          (subst (All (λ set. Inside set (future_set (formula_at query.nodes place)))) has.2
          (fits.own has.0 row))

  entries_few : (entries : List (ℕ × Antichains))
      → ((e : ℕ × Antichains) → Contains entries e
      → sum_by length (antichains_of e.1) ≤ rows * sets)
      → sum_by length (all_antichains entries) ≤ length entries * (rows * sets)
  unfolding all_antichains
  entries_few [] each = omega arith
  entries_few (e ∷ entries) each =
      omega (
        arith,
        sum_by-append length (antichains_of e.1) (all_antichains entries),
        each e (Contains-first e entries),
        entries_few entries (λ x there. each x (Contains-later e entries x there)),
      )

  -- what is kept of one query
  query_few : (k : Kept) → Fits query individuals k
      → ((antichain : List ℕ) → KeepsOf k antichain → IsAntichain antichain)
      → sum_by length (all_antichains k.tables.items) ≤ units_of individuals query
  query_few k fits antichains =
      let many : length k.tables.items ≤ length query.nodes =
      few_entries (length query.nodes) k.tables.items fits.rising
      (All-weaker (λ (e : ℕ × Antichains). FitsNode query individuals e.0 e.1) (λ (e : ℕ
      × Antichains). e.0 < length query.nodes) (λ e node.
      kept_of_query query is e.0 node.kept) k.tables.items fits.tables) in
      omega (
        arith,
        mul-le-mul_left (rows * sets) many,
        entries_few k.tables.items
            (λ e there. table_few e.0 e.1
            (All-contains (λ (x : ℕ × Antichains).
            FitsNode query individuals x.0 x.1) k.tables.items e fits.tables there)
            (λ antichain has. antichains antichain (e.0, e.1, there, has))),
      )

-- what is kept of all queries
kept_few : (individuals : ℕ) (queries : List Tcq) (kept : List Kept)
    → ((query : Tcq) → Contains queries query → IsTcq query.vars query.nodes)
    → AllZip (λ (query : Tcq) (k : Kept). Fits query individuals k) queries kept
    → ((antichain : List ℕ) → KeepsAntichain kept antichain → IsAntichain antichain)
    → sum_by length (kept_antichains kept) ≤ units individuals queries
unfolding kept_antichains
kept_few individuals [] [] tables fit antichains = omega arith
kept_few individuals [] (k ∷ kept) tables fit antichains = absurd fit
kept_few individuals (query ∷ queries) [] tables fit antichains = absurd fit
kept_few individuals (query ∷ queries) (k ∷ kept) tables fit antichains =
    omega (
      arith,
      sum_by-append length (all_antichains k.tables.items) (kept_antichains kept),
      sum_by-cons (units_of individuals) query queries,
      query_few individuals query (tables query (Contains-first query queries)) k fit.0
          (λ antichain keeps. antichains antichain (k, Contains-first k kept, keeps)),
      kept_few individuals queries kept (λ q there.
          tables q (Contains-later query queries q there)) fit.1 (λ antichain keeps.
          antichains antichain (keeps.0, Contains-later k kept keeps.0 keeps.1, keeps.2)),
    )

-- a list of the antichains that are kept, each once
pub store_few : (individuals : ℕ) (queries : List Tcq) (kept : List Kept) (store : List (List ℕ))
    → ((query : Tcq) → Contains queries query → IsTcq query.vars query.nodes)
    → AllZip (λ (query : Tcq) (k : Kept). Fits query individuals k) queries kept
    → IsStoreOf kept store → All IsAntichain store → sum_by length store ≤ units individuals queries
store_few individuals queries kept store tables fit stored antichains =
    omega (
      arith,
      total-le length store (kept_antichains kept) stored.distinct (λ antichain there.
          kept_has kept antichain ((stored.exact antichain).0 there)),
      kept_few individuals queries kept tables fit (λ antichain keeps.
          All-contains IsAntichain store antichain antichains ((stored.exact antichain).1 keeps)),
    )
