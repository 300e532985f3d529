-- What a table has at its ranks.
use Rattle.std.proofs.Common.{◌≡◌, ℕ, zero, suc, ◌^◌, ◌<◌, ◌≤◌, List, [], ◌∷◌, length, sym, ◌∙◌, ap}
use Rattle.std.proofs.Common.{subst, arith}
use Rattle.std.specs.Prelude.{◌↔◌, slice_index_or}
use Rattle.std.specs.List.{Contains}
use Rattle.std.proofs.lemmas.List.{get_or_default}
use Rattle.dl_syntax.specs.declared.names.IndId.{IndId}
use Rattle.answer_tables.specs.declared.run.Run.{Run}
use Rattle.answer_tables.specs.Runs.{link_at, end_from, RiseFrom, NamedBelow}
use Rattle.answer_tables.specs.Tuples.{IsTuple, number}
use Rattle.answer_tables.specs.Table.{Antichains, at, AreRuns, AreUsed, IsTable, HasAntichain}
use Rattle.answer_tables.specs.Table.{antichain_at, view_of}
use Rattle.answer_tables.proofs.Runs.{run_at, link_at-named, link_at-here}
use Rattle.answer_tables.proofs.Numbers.{tuple_below, tuple_at}
use Rattle.answer_tables.proofs.Views.{at_view}

-- the link of a number told by runs is in the list
pub named_at : (slots arity : ℕ) (links : List (List ℕ)) (runs : List Run) (n : ℕ)
    → AreRuns slots arity links runs → n < slots ^ arity → link_at runs n < length links
named_at slots arity links runs n are below =
    link_at-named 0 runs (length links) n are.named (omega arith) (omega (arith, below, are.ends))

-- the antichain at a rank is that of its tuple
pub antichain_at_rank : (slots arity : ℕ) (links : List (List ℕ)) (runs : List Run) (v : Antichains)
    (n : ℕ) → view_of slots arity links runs ≡ v → n < slots ^ arity → (tuple : List IndId)
    → IsTuple v.slots v.arity tuple → number v.slots tuple ≡ n
    → antichain_at links runs n ≡ at v tuple
antichain_at_rank slots arity links runs v n view below tuple tup num =
    let here : IsTuple slots arity tuple =
    subst (λ (w : Antichains). IsTuple w.slots w.arity tuple) (sym view) tup in
    let slots_is : slots ≡ v.slots = ap (λ (w : Antichains). w.slots) view in
    ap (antichain_at links runs) (sym num ∙ ap (λ (s : ℕ). number s tuple) (sym slots_is)) ∙ sym
    (at_view slots arity links runs tuple here) ∙ ap (λ (w : Antichains). at w tuple) view

-- each antichain at a rank is some tuple's
pub has_antichain : (slots arity : ℕ) (links : List (List ℕ)) (runs : List Run) (v : Antichains)
    (n : ℕ) → view_of slots arity links runs ≡ v → n < slots ^ arity
    → HasAntichain v (antichain_at links runs n)
has_antichain slots arity links runs v n view below =
    let found = tuple_at slots arity n below in
    subst (λ (w : Antichains). HasAntichain w (antichain_at links runs n)) view (
      found.0,
      found.1,
      at_view slots arity links runs found.0 found.1 ∙ ap
          (antichain_at links runs) found.2,
    )

-- the links are exactly the antichains of the tuples
pub exact_links : (slots arity : ℕ) (links : List (List ℕ)) (runs : List Run) (v : Antichains)
    → view_of slots arity links runs ≡ v → IsTable slots arity links runs → (antichain : List ℕ)
    → Contains links antichain ↔ HasAntichain v antichain
exact_links slots arity links runs v view is antichain = (to, from)
  where
    to : Contains links antichain → HasAntichain v antichain
    to (k, within, same) =
        let used = is.used k within in
        let told : antichain_at links runs used.0 ≡ antichain =
        ap (λ (j : ℕ). slice_index_or links j []) used.2 ∙ get_or_default links k [] antichain
        within ∙ same in
        subst (HasAntichain v) told (has_antichain slots arity links runs v used.0 view used.1)

    from : HasAntichain v antichain → Contains links antichain
    from (tuple, tup, same) =
        let here : IsTuple slots arity tuple =
        subst (λ (w : Antichains). IsTuple w.slots w.arity tuple) (sym view) tup in
        let n : ℕ = number slots tuple in
        let small : link_at runs n < length links =
        named_at slots arity links runs n is.are (tuple_below slots arity tuple here) in
        let told : slice_index_or links (link_at runs n) [] ≡ antichain =
        sym (at_view slots arity links runs tuple here) ∙ ap (λ (w : Antichains).
        at w tuple) view ∙ same in
        (link_at runs n, small, get_or_default links (link_at runs n) antichain [] small ∙ told)

-- the first run stands at the first rank
pub first_run : (runs : List Run) (slots arity : ℕ) (links : List (List ℕ))
    → AreRuns slots arity links runs → 0 < length runs
    → (0 < slots ^ arity) × (link_at runs 0 ≡ (run_at runs 0).link)
first_run [] slots arity links are some = absurd (omega (arith, some))
first_run (r ∷ rs) slots arity links are some =
    let up = are.rise.0 in
    let far = above r.end rs are.rise.1 in
    (omega (arith, up, far, are.ends), link_at-here r rs 0 up)
  where
    above : (low : ℕ) (ys : List Run) → RiseFrom low ys → low ≤ end_from low ys
    above low [] rise = omega arith
    above low (y ∷ ys) rise = let less = rise.0 in let later = above y.end ys rise.1 in
        omega (arith, less, later)

pub no_run : (runs : List Run) (slots arity : ℕ) (links : List (List ℕ))
    → AreRuns slots arity links runs → length runs ≡ 0 → slots ^ arity ≡ 0
no_run [] slots arity links are none = sym are.ends
no_run (r ∷ rs) slots arity links are none = absurd (omega (arith, none))

-- no runs, and one run, over all tuples
pub AreRuns-none : (slots arity : ℕ) (links : List (List ℕ)) (runs : List Run) → runs ≡ []
    → slots ^ arity ≡ 0 → AreRuns slots arity links runs
AreRuns-none slots arity links runs none empty =
    subst (AreRuns slots arity links) (sym none) (record {
      rise = tt;
      ends = sym empty;
      few =
          omega (arith, empty);
      named = λ k d within. absurd (omega (arith, within));
    })

pub AreRuns-one : (slots arity end : ℕ) (link : List ℕ) → slots ^ arity ≤ 2 ^ 60
    → end ≡ slots ^ arity → 0 < end
    → AreRuns slots arity (link ∷ []) ((record { end = end; link = 0 }) ∷ [])
AreRuns-one slots arity end link few is some =
    record { rise = (some, tt); ends = is; few = few; named = named }
  where
    named : NamedBelow (length (link ∷ [])) ((record { end = end; link = 0 }) ∷ [])
    named zero d within = omega arith
    named (suc k) d within = absurd (omega (arith, within))

pub AreUsed-one : (slots arity end : ℕ) → end ≡ slots ^ arity → 0 < end
    → AreUsed (slots ^ arity) 1 ((record { end = end; link = 0 }) ∷ [])
AreUsed-one slots arity end is some zero within =
    (0, omega (arith, is, some), link_at-here (record { end = end; link = 0 }) [] 0 some)
AreUsed-one slots arity end is some (suc i) within = absurd (omega (arith, within))

pub at_one : (slots arity end : ℕ) (link : List ℕ) (tuple : List IndId) → end ≡ slots ^ arity
    → IsTuple slots arity tuple
    → at (view_of slots arity (link ∷ []) ((record { end = end; link = 0 }) ∷ [])) tuple ≡ link
at_one slots arity end link tuple is tup =
    at_view slots arity (link ∷ []) ((record { end = end; link = 0 }) ∷ []) tuple tup
    ∙ ap (λ (k : ℕ). slice_index_or (link ∷ []) k [])
    (link_at-here (record {
      end = end;
      link =
          0;
    }) [] (number slots tuple) (omega (arith, tuple_below slots arity tuple tup, is)))
