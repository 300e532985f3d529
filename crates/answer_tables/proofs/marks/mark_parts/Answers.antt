use Rattle.std.proofs.Common.{◌≡◌, ◌+◌, ◌-◌, ◌^◌, ◌<◌, ◌≤◌, ℕ, List, length, sym, ap, subst, arith}
use Rattle.std.proofs.Math.Nat.{pow-le-pow_right}
use Rattle.answer_tables.specs.declared.run.Run.{Run}
use Rattle.answer_tables.specs.Runs.{end_from}
use Rattle.answer_tables.specs.Spreading.{Spread, reach}
use Rattle.answer_tables.specs.Marks.{AreMarked}
use Rattle.answer_tables.proofs.Parts.{fewer_places, MarksParts-spread, MarksParts-whole}
use Rattle.answer_tables.proofs.marks.mark_parts.Goals as goal

pub mark_rows-requires-clause-few : goal.mark_rows-requires-clause-few
mark_rows-requires-clause-few c =
    let many = fewer_places c.args.arity c.args.places.now c.requires.rising_places
    c.requires.within in
    let less : c.args.slots ^ c.args.rows.now.arity ≤ c.args.slots ^ c.args.arity =
    pow-le-pow_right c.requires.some (omega (arith, many, c.requires.many)) in
    omega (arith, less, c.requires.few)

pub spread-requires-clause-few : goal.spread-requires-clause-few
spread-requires-clause-few c =
    let many = fewer_places c.args.arity c.args.places.now c.requires.rising_places
    c.requires.within in
    let less : c.args.slots ^ c.args.rows.now.arity ≤ c.args.slots ^ c.args.arity =
    pow-le-pow_right c.requires.some (omega (arith, many, c.requires.many)) in
    subst (λ (rs : List Run). end_from 0 rs ≤ 2 ^ 60) (sym c.as_slice.ensures.value)
    (omega (arith, less, c.requires.few, c.in_ok-marked.ensures.ends))

pub spread-requires-clause-within : goal.spread-requires-clause-within
spread-requires-clause-within c =
    let slots = c.args.slots in
    let weights = c.in_ok-weights.weights.items in
    let same : slots ^ c.args.rows.now.arity ≡ slots ^ length c.args.places.now =
    ap (λ (k : ℕ). slots ^ k) (sym c.requires.many) in
    let below : 0 + reach (slots - 1) weights < end_from 0 c.in_ok-marked.marked.items =
    omega (arith, c.in_ok-weights.ensures.most, c.in_ok-marked.ensures.ends, same) in
    subst (λ (ws : List ℕ). 0 + reach (slots - 1) ws < end_from 0 c.as_slice.result.now)
    (sym c.as_slice-2.ensures.value)
    (subst (λ (rs : List Run). 0 + reach (slots - 1) weights < end_from 0 rs)
    (sym c.as_slice.ensures.value) below)

pub returns : goal.returns
returns c =
    let slots = c.args.slots in
    let rows = c.args.rows.now.rows in
    let marked = c.in_ok-marked.marked.items in
    let weights = c.in_ok-weights.weights.items in
    let new = c.spread.new.new.items in
    let are : AreMarked slots (length c.args.places.now) rows marked
    (slots ^ length c.args.places.now) =
    subst (λ (k : ℕ). AreMarked slots k rows marked (slots ^ k)) (sym c.requires.many)
    c.in_ok-marked.ensures in
    MarksParts-spread slots c.args.arity c.args.places.now rows marked c.new-runs.result.items new
    weights c.requires.within are c.in_ok-weights.ensures c.new-runs.ensures.items
    (subst (λ (ws : List ℕ). Spread marked ws slots (slots - 1) 0 0 c.new-runs.result.items new)
    c.as_slice-2.ensures.value
    (subst (λ (rs : List Run). Spread rs c.as_slice-2.result.now slots (slots - 1) 0 0
    c.new-runs.result.items new) c.as_slice.ensures.value c.in_ok-spread.ensures))

pub returns-then-are_all : goal.returns-then-are_all
returns-then-are_all c =
    let places = c.args.places.now in
    let are : AreMarked c.args.slots (length places) c.args.rows.now.rows
    c.in_ok-marked.marked.items (c.args.slots ^ length places) =
    subst (λ (k : ℕ). AreMarked c.args.slots k c.args.rows.now.rows c.in_ok-marked.marked.items
    (c.args.slots ^ k)) (sym c.requires.many) c.in_ok-marked.ensures in
    MarksParts-whole c.args.slots c.args.arity places c.args.rows.now.rows
    c.in_ok-marked.marked.items are (c.are_all.ensures.many c.if-are_all.true)
    (c.are_all.ensures.own c.if-are_all.true)
