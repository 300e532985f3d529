-- What is written of a monitor fits its ontology and queries.
use Rattle.std.proofs.Common.{◌≡◌, ℕ, zero, ◌+◌, ◌-◌, ◌^◌, ◌<◌, ◌≤◌, Bool, true, false, cond}
use Rattle.std.proofs.Common.{List, [], ◌∷◌, length, take, drop, get_or, refl, sym, ◌∙◌, ap}
use Rattle.std.proofs.Common.{subst, arith, inl, inr, bit_and, ◌*◌}
use Rattle.std.specs.Prelude.{if◌then◌else◌, ◌⊎◌, All, None, Some}
use Rattle.std.specs.Prelude.{map}
use Rattle.std.specs.List.{AllZip, Contains}
use Rattle.std.proofs.lemmas.Bool.{cases_lt}
use Rattle.std.proofs.lemmas.List.{length-drop, length-take-le}
use Rattle.std.proofs.lemmas.List.Elements.{All-contains, All-head, All-tail}
use Rattle.std.proofs.lemmas.List.Elements.{Contains-append_cases}
use Rattle.std.proofs.lemmas.Nat.{and_le_l}
use Rattle.std.proofs.lemmas.Nat.Bits.{and_pow}
use Rattle.std.proofs.Math.Pow.{pow_mono}
use Rattle.list_lemmas.proofs.Elements.{All-back, All-front, All-from_contains}
use Rattle.list_lemmas.proofs.Elements.{Contains-first, Contains-later}
use Rattle.tcq_syntax.specs.End.{Has, Inside, future_set}
use Rattle.tcq_syntax.specs.Formula.{formula_at}
use Rattle.tcq_syntax.specs.Sizes.{futures}
use Rattle.tcq_syntax.specs.Tcq.{IsTcq, Tcq}
use Rattle.tcq_syntax.proofs.Sets.{Has-bit, Has-inside}
use Rattle.tcq_syntax.proofs.Trees.{children_are_below}
use Rattle.antichains.specs.Antichain.{IsAntichain}
use Rattle.formula_store.proofs.Lists.{generation}
use Rattle.answer_tables.specs.Lengths.{antichains_in}
use Rattle.answer_tables.specs.Table.{Antichains}
use Rattle.progression.specs.declared.kept.Kept.{Kept}
use Rattle.progression.specs.Kept.{FitsNode}
use Rattle.progression.proofs.NextKept.{named}
use Rattle.monitor_core.specs.Keeping.{AllFit, IsMonitored, Monitored}
use Rattle.monitor_core.proofs.Bounds.{future_set-below}
use Rattle.checkpoint_text.specs.Suspended.{ArePlaces, AreStretches, Frame, IsFutureOf, IsKeptOf}
use Rattle.checkpoint_text.specs.Suspended.{IsListOf, IsSuspended, Suspended, numbers_of}
use Rattle.checkpoint_text.specs.Suspended.{AreInOrder, seen_behind, slots_with}
use Rattle.checkpoint_state.specs.Suspending.{all_nodes, antichains_in_all, antichains_of, frame_of}
use Rattle.checkpoint_state.specs.Suspending.{kept_lists, names_of_monitor, nodes_of}
use Rattle.checkpoint_state.specs.Suspending.{suspended}
use Rattle.checkpoint_state.proofs.Arriving.{names_fit}
use Rattle.checkpoint_state.proofs.Fitting.{are_places, each_node, lists_distinct, lists_known}
use Rattle.checkpoint_state.proofs.Fitting.{own_sets}
use Rattle.checkpoint_state.proofs.Ordering.{in_order, kept_below, kept_interned}

-- ---- numbers of future nodes

-- a node of a set below a power of two has a number below the exponent
has_below : (set number limit : ℕ) → set < 2 ^ limit → Has set number → number < limit
has_below set number limit small has =
    go (cases_lt number limit)
  where
    bit : 2 ^ number ≤ set
    bit = let product : bit_and set (2 ^ number) ≡ 1 * 2 ^ number =
        and_pow set number ∙ ap (λ (b : ℕ). b * 2 ^ number) (Has-bit set number has) in
        omega (arith, product, and_le_l set (2 ^ number))

    go : (number < limit) ⊎ (limit ≤ number) → number < limit
    go (inl less) = less
    go (inr more) = absurd (let far : 2 ^ limit ≤ 2 ^ number = pow_mono more in
        omega (arith, far, bit, small))

pub future_known : (query : Tcq) → IsTcq query.vars query.nodes → (place set number : ℕ)
    → Inside set (future_set (formula_at query.nodes place)) → Has set number
    → number < futures query.nodes
future_known query is place set number inside has =
    has_below (future_set (formula_at query.nodes place)) number (futures query.nodes)
    (future_set-below (futures query.nodes) (formula_at query.nodes place)
    (named query.nodes (children_are_below query.vars query.nodes is).0 place))
    (Has-inside set (future_set (formula_at query.nodes place)) inside number has)

-- ---- the whole

-- the slots of a monitor are those of what is written
pub slots_same : (m : Monitored) → IsMonitored m
    → slots_with (frame_of m).ontology (names_of_monitor m) ≡ m.plan.slots
slots_same m is = go m.strangers refl
  where
    individuals : List (List ℕ)
    individuals = m.plan.ontology.individuals

    count : ℕ
    count = length individuals - m.declared

    short : length (take count individuals) ≡ count
    short = length-take-le count individuals (omega arith)

    go : (b : Bool) → b ≡ m.strangers
        → slots_with (frame_of m).ontology (cond b (Some (drop count individuals)) None)
        ≡ m.plan.slots
    go true opened =
        let slots : m.plan.slots ≡ length individuals + 1 =
        is.slots ∙ ap (λ (b : Bool). length individuals + (if b then 1 else 0)) (sym opened) in
        let came = is.came in
        omega (arith, slots, short, length-drop count individuals, came)
    go false shut =
        let slots : m.plan.slots ≡ length individuals + 0 =
        is.slots ∙ ap (λ (b : Bool). length individuals + (if b then 1 else 0)) (sym shut) in
        let none = is.closed (sym shut) in
        omega (arith, slots, short, none)

all_kept_fit : (lists : List (List ℕ)) (frame : Frame) (c : Suspended) (slots : ℕ)
    (queries : List Tcq) (kept : List Kept) → c.lists ≡ lists
    → slots_with frame.ontology c.names ≡ slots → All (λ k. k.count ≡ c.accepted) kept
    → All (Contains lists) (antichains_of kept) → AllFit slots queries kept
    → AllZip (IsKeptOf frame c) queries (all_nodes lists kept)
all_kept_fit lists frame c slots [] [] same few counts known fits = tt
all_kept_fit lists frame c slots [] (k ∷ ks) same few counts known fits = absurd fits
all_kept_fit lists frame c slots (q ∷ qs) [] same few counts known fits = absurd fits
all_kept_fit lists frame c slots (q ∷ qs) (k ∷ ks) same few counts known fits = (
  record {
    places = subst (λ (n : ℕ). ArePlaces c.accepted (n ^ q.vars) q
        (map (λ node. node.place) (nodes_of lists k.tables.items))) (sym few)
        (are_places lists q slots k c.accepted (counts zero k (omega arith)) fits.0);
    each = subst (λ (n : ℕ). All (λ node. AreStretches c.lists q (n ^ q.vars) node.place
        node.stretches) (nodes_of lists k.tables.items)) (sym few)
        (subst (λ (l : List (List ℕ)). All (λ node. AreStretches l q (slots ^ q.vars) node.place
        node.stretches) (nodes_of lists k.tables.items)) (sym same)
        (each_node lists q slots k.tables.items fits.0.tables
        (All-front (Contains lists) (antichains_in_all k.tables.items) (antichains_of ks) known)));
  },
  all_kept_fit lists frame c slots qs ks same few
      (All-tail (λ (x : Kept). x.count ≡ c.accepted) k ks counts)
      (All-back (Contains lists) (antichains_in_all k.tables.items) (antichains_of ks) known)
      fits.1,
)

-- some query's table has each antichain that is kept
known_lists : (slots : ℕ) (queries : List Tcq) (kept : List Kept)
    → All (λ query. IsTcq query.vars query.nodes) queries → AllFit slots queries kept
    → (x : List ℕ) → Contains (antichains_of kept) x
    → All (λ set. (number : ℕ) → Has set number → IsFutureOf queries number) x
known_lists slots [] [] tables fits x there = absurd (let l = there.1 in omega (arith, l))
known_lists slots [] (k ∷ ks) tables fits x there = absurd fits
known_lists slots (q ∷ qs) [] tables fits x there = absurd fits
known_lists slots (q ∷ qs) (k ∷ ks) tables fits x there =
    go (Contains-append_cases (antichains_in_all k.tables.items) (antichains_of ks) x there)
    (λ later. known_lists slots qs ks
    (All-tail (λ (query : Tcq). IsTcq query.vars query.nodes) q qs tables) fits.1 x later)
  where
    entry : (entries : List (ℕ × Antichains)) → All (λ e. FitsNode q slots e.0 e.1) entries
        → Contains (antichains_in_all entries) x
        → (place : ℕ) × All (λ set. Inside set (future_set (formula_at q.nodes place))) x
    entry [] fit found = absurd (let l = found.1 in omega (arith, l))
    entry (e ∷ es) fit found =
        choose (Contains-append_cases (antichains_in e.1) (antichains_in_all es) x found)
        (λ later. entry es (All-tail (λ (y : ℕ × Antichains). FitsNode q slots y.0 y.1) e es fit)
        later)
      where
        choose : Contains (antichains_in e.1) x ⊎ Contains (antichains_in_all es) x
            → (Contains (antichains_in_all es) x
            → (place : ℕ) × All (λ set. Inside set (future_set (formula_at q.nodes place))) x)
            → (place : ℕ) × All (λ set. Inside set (future_set (formula_at q.nodes place))) x
        choose (inl here) rest = (
          e.0,
          own_sets [] q slots e
              (All-head (λ (y : ℕ × Antichains). FitsNode q slots y.0 y.1) e es fit) x here,
        )
        choose (inr later) rest = rest later

    go : Contains (antichains_in_all k.tables.items) x ⊎ Contains (antichains_of ks) x
        → (Contains (antichains_of ks) x
        → All (λ set. (number : ℕ) → Has set number → IsFutureOf qs number) x)
        → All (λ set. (number : ℕ) → Has set number → IsFutureOf (q ∷ qs) number) x
    go (inl here) rest =
        let own = entry k.tables.items fits.0.tables here in
        λ i d within number has. (
          q,
          Contains-first q qs,
          future_known q (All-head (λ (query : Tcq). IsTcq query.vars query.nodes) q qs tables)
              own.0 (get_or x i d) number (own.1 i d within) has,
        )
    go (inr later) rest = λ i d within number has.
        let found = rest later i d within number has in
        (found.0, Contains-later q qs found.0 found.1, found.2)

module _ (m : Monitored) (is : IsMonitored m) (few : m.state.count < 2 ^ 64)
    (antichains : All IsAntichain (kept_lists m.state.kept.items)) where
  abbrev kept : List Kept
  kept = m.state.kept.items

  abbrev lists : List (List ℕ)
  lists = kept_lists m.state.kept.items

  ordered : AreInOrder 0 (numbers_of (all_nodes lists kept))
      × (seen_behind 0 (numbers_of (all_nodes lists kept)) ≡ length lists)
  ordered = in_order lists (lists_distinct kept) 0 (numbers_of (all_nodes lists kept)) (omega arith)
      (kept_below lists kept (lists_known kept))
      (kept_interned lists [] kept (lists_known kept))

  pub suspended_fits : IsSuspended (frame_of m) (suspended m)
  suspended_fits = record {
    names = names_fit m.plan.ontology m.plan.queries.items is.plan.sound is.plan.within
        (length m.plan.ontology.individuals - m.declared) m.strangers;
    counted = few;
    lists = All-from_contains (IsListOf m.plan.queries.items) lists (λ x there. record {
      antichain = All-contains IsAntichain lists x antichains there;
      known = known_lists m.plan.slots m.plan.queries.items kept is.plan.tables is.fits x
          (((generation (antichains_of kept)).1 x).0 there);
    });
    distinct = lists_distinct kept;
    queries = all_kept_fit lists (frame_of m) (suspended m) m.plan.slots m.plan.queries.items kept
        refl (slots_same m is) is.state.counts (lists_known kept) is.fits;
    order = ordered.0;
    occur = ordered.1;
  }
