use Rattle.std.proofs.Common.{◌≡◌, ◌+◌, ◌-◌, ◌^◌, ◌<◌, ◌≤◌, ℕ, List, length, sym, ◌∙◌, ap, subst}
use Rattle.std.proofs.Common.{arith}
use Rattle.std.proofs.lemmas.Result.{IfOk-weaker}
use Rattle.answer_tables.specs.declared.run.Run.{Run}
use Rattle.answer_tables.specs.Runs.{end_from, AreAlike}
use Rattle.answer_tables.specs.Tuples.{IsTuple}
use Rattle.answer_tables.specs.Table.{Antichains, AreRuns, AreUsed, at, view_of}
use Rattle.answer_tables.specs.Spreading.{Spread, reach, place_weights, narrowed}
use Rattle.answer_tables.proofs.Renamings.{AreRuns-alike, AreUsed-alike, view_alike}
use Rattle.answer_tables.proofs.Widening.{length_place, reach_place, narrowed_same, wider}
use Rattle.answer_tables.proofs.Widening.{AreRuns-wider, AreUsed-wider, at_wider}
use Rattle.answer_tables.proofs.table.Table.widen.Goals as goal

pub spread-requires-clause-long : goal.spread-requires-clause-long
spread-requires-clause-long c =
    ap (λ (ws : List ℕ). length ws)
    (c.as_slice-2.ensures.value ∙ c.in_ok-weights.ensures) ∙ length_place c.self.inside.slots
    c.self.inside.arity

pub spread-requires-clause-within : goal.spread-requires-clause-within
spread-requires-clause-within c =
    let slots = c.self.inside.slots in
    let arity = c.self.inside.arity in
    let some : 0 < slots = subst (λ (v : Antichains).
    0 < v.slots) (sym c.self.view_is) c.requires.some in
    let runs = c.in_ok-old.old.items in
    let alike : AreAlike c.self.inside.ranks.value runs =
    subst (λ (rs : List Run). AreAlike rs runs) c.deref.ensures c.in_ok-old.ensures in
    let below : 0 + reach (slots - 1) (place_weights slots arity) < end_from 0 runs =
    omega (arith, reach_place slots arity some, c.self.invariant.are.ends, alike.ends) in
    subst (λ (ws : List ℕ). 0 + reach (slots - 1) ws < end_from 0 c.as_slice.result.now)
    (sym (c.as_slice-2.ensures.value ∙ c.in_ok-weights.ensures))
    (subst (λ (rs : List Run). 0 + reach (slots - 1) (place_weights slots arity) < end_from 0 rs)
    (sym c.as_slice.ensures.value) below)

pub from_parts-requires-clause-are : goal.from_parts-requires-clause-are
from_parts-requires-clause-are c =
    let slots = c.self.inside.slots in
    let arity = c.self.inside.arity in
    let links = c.self.inside.links.items in
    let runs = c.in_ok-old.old.items in
    let alike : AreAlike c.self.inside.ranks.value runs =
    subst (λ (rs : List Run). AreAlike rs runs) c.deref.ensures c.in_ok-old.ensures in
    let are : AreRuns slots arity links runs =
    AreRuns-alike slots arity links c.self.inside.ranks.value runs alike c.self.invariant.are in
    let used : AreUsed (slots ^ arity) (length links) runs =
    AreUsed-alike (slots ^ arity) (length links) c.self.inside.ranks.value runs alike
    c.self.invariant.are.ends c.self.invariant.used in
    let before = c.new-runs.result.items in
    let new = c.spread.new.new.items in
    let some : 0 < slots = subst (λ (v : Antichains).
    0 < v.slots) (sym c.self.view_is) c.requires.some in
    let few : (slots + c.args.more) ^ arity ≤ 2 ^ 60 =
    subst (λ (v : Antichains). (v.slots + c.args.more) ^ v.arity ≤ 2 ^ 60) (sym c.self.view_is)
    c.requires.few in
    let so : Spread runs (place_weights slots arity) (slots + c.args.more) (slots - 1) 0 0 before
    new =
    subst (λ (ws : List ℕ). Spread runs ws (slots + c.args.more) (slots - 1) 0 0 before new)
    (c.as_slice-2.ensures.value ∙ c.in_ok-weights.ensures)
    (subst (λ (rs : List Run). Spread rs c.as_slice-2.result.now (slots + c.args.more) (slots - 1)
    0 0 before
    new) (c.as_slice.ensures.value) c.in_ok-spread.ensures) in
    subst (λ (l : List (List ℕ)). AreRuns (slots + c.args.more) arity l c.as_slice-4.result.now)
    (sym c.as_slice-3.ensures.value)
    (subst (AreRuns (slots + c.args.more) arity links) (sym c.as_slice-4.ensures.value)
    (AreRuns-wider slots (slots + c.args.more) arity (omega arith) links runs before new some are
    used few c.new-runs.ensures.items
    so))

pub from_parts-requires-clause-used : goal.from_parts-requires-clause-used
from_parts-requires-clause-used c =
    let slots = c.self.inside.slots in
    let arity = c.self.inside.arity in
    let links = c.self.inside.links.items in
    let runs = c.in_ok-old.old.items in
    let alike : AreAlike c.self.inside.ranks.value runs =
    subst (λ (rs : List Run). AreAlike rs runs) c.deref.ensures c.in_ok-old.ensures in
    let are : AreRuns slots arity links runs =
    AreRuns-alike slots arity links c.self.inside.ranks.value runs alike c.self.invariant.are in
    let used : AreUsed (slots ^ arity) (length links) runs =
    AreUsed-alike (slots ^ arity) (length links) c.self.inside.ranks.value runs alike
    c.self.invariant.are.ends c.self.invariant.used in
    let before = c.new-runs.result.items in
    let new = c.spread.new.new.items in
    let some : 0 < slots = subst (λ (v : Antichains).
    0 < v.slots) (sym c.self.view_is) c.requires.some in
    let few : (slots + c.args.more) ^ arity ≤ 2 ^ 60 =
    subst (λ (v : Antichains). (v.slots + c.args.more) ^ v.arity ≤ 2 ^ 60) (sym c.self.view_is)
    c.requires.few in
    let so : Spread runs (place_weights slots arity) (slots + c.args.more) (slots - 1) 0 0 before
    new =
    subst (λ (ws : List ℕ). Spread runs ws (slots + c.args.more) (slots - 1) 0 0 before new)
    (c.as_slice-2.ensures.value ∙ c.in_ok-weights.ensures)
    (subst (λ (rs : List Run). Spread rs c.as_slice-2.result.now (slots + c.args.more) (slots - 1)
    0 0 before
    new) (c.as_slice.ensures.value) c.in_ok-spread.ensures) in
    subst (λ (l : List (List ℕ)). AreUsed ((slots + c.args.more) ^ arity) (length l)
    c.as_slice-4.result.now)
    (sym c.as_slice-3.ensures.value)
    (subst (AreUsed ((slots + c.args.more) ^ arity) (length links)) (sym c.as_slice-4.ensures.value)
    (AreUsed-wider slots (slots + c.args.more) arity (omega arith) links runs before new some are
    used few c.new-runs.ensures.items
    so))

pub returns-clause-each : goal.returns-clause-each
returns-clause-each c =
    let slots = c.self.inside.slots in
    let arity = c.self.inside.arity in
    let links = c.self.inside.links.items in
    let runs = c.in_ok-old.old.items in
    let alike : AreAlike c.self.inside.ranks.value runs =
    subst (λ (rs : List Run). AreAlike rs runs) c.deref.ensures c.in_ok-old.ensures in
    let are : AreRuns slots arity links runs =
    AreRuns-alike slots arity links c.self.inside.ranks.value runs alike c.self.invariant.are in
    let used : AreUsed (slots ^ arity) (length links) runs =
    AreUsed-alike (slots ^ arity) (length links) c.self.inside.ranks.value runs alike
    c.self.invariant.are.ends c.self.invariant.used in
    let before = c.new-runs.result.items in
    let new = c.spread.new.new.items in
    let some : 0 < slots = subst (λ (v : Antichains).
    0 < v.slots) (sym c.self.view_is) c.requires.some in
    let few : (slots + c.args.more) ^ arity ≤ 2 ^ 60 =
    subst (λ (v : Antichains). (v.slots + c.args.more) ^ v.arity ≤ 2 ^ 60) (sym c.self.view_is)
    c.requires.few in
    let so : Spread runs (place_weights slots arity) (slots + c.args.more) (slots - 1) 0 0 before
    new =
    subst (λ (ws : List ℕ). Spread runs ws (slots + c.args.more) (slots - 1) 0 0 before new)
    (c.as_slice-2.ensures.value ∙ c.in_ok-weights.ensures)
    (subst (λ (rs : List Run). Spread rs c.as_slice-2.result.now (slots + c.args.more) (slots - 1)
    0 0 before
    new) (c.as_slice.ensures.value) c.in_ok-spread.ensures) in
    let slots_is : slots ≡ c.args.self.now.slots =
    ap (λ (v : Antichains). v.slots) c.self.view_is in
    IfOk-weaker c.from_parts.result _ _ (λ (t : Antichains) is tuple tup.
    at_wider slots (slots + c.args.more) arity (omega arith) links runs before new some are used
    few c.new-runs.ensures.items so t
    c.args.self.now
    (is ∙ ap (λ (l : List (List ℕ)). view_of (slots + c.args.more) arity l c.as_slice-4.result.now)
    c.as_slice-3.ensures.value ∙ ap (view_of (slots + c.args.more) arity links)
    c.as_slice-4.ensures.value) (view_alike slots arity links c.self.inside.ranks.value runs
    alike c.self.invariant.are ∙ c.self.view_is) tuple
    (subst (λ (v : Antichains). IsTuple (v.slots + c.args.more) v.arity tuple) (sym c.self.view_is)
    tup)
    ∙ ap (λ (s : ℕ). at c.args.self.now (narrowed s tuple)) slots_is) c.from_parts.ensures

pub returns-clause-old : goal.returns-clause-old
returns-clause-old c =
    let each = returns-clause-each c in
    IfOk-weaker c.from_parts.result _ _ (λ (t : Antichains) all tuple tup.
    all tuple (wider c.args.self.now.slots (c.args.self.now.slots + c.args.more)
    c.args.self.now.arity
    tuple (omega arith) tup)
    ∙ ap (at c.args.self.now) (narrowed_same c.args.self.now.slots tuple tup.1)) each
