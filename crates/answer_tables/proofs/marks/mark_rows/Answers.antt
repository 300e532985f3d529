use Rattle.std.proofs.Common.{◌≡◌, ◌^◌, ℕ, List, ◌∙◌, ap, subst, arith}
use Rattle.std.proofs.lemmas.List.{take_all}
use Rattle.dl_syntax.specs.declared.names.IndId.{IndId}
use Rattle.answer_tables.specs.Marks.{Cleared, Marks}
use Rattle.answer_tables.proofs.Marking.{AreMarked-end}
use Rattle.answer_tables.proofs.marks.mark_rows.Goals as goal

pub returns : goal.returns
returns c =
    let slots = c.args.slots in
    let arity = c.args.rows.now.arity in
    let rows = c.args.rows.now.rows in
    let count : c.tuple_count.result ≡ slots ^ arity =
    c.tuple_count.ensures ∙ ap (λ (k : ℕ). slots ^ k) c.arity.ensures in
    let marks : Marks slots arity rows c.loop-place.runs.items c.loop-place.end =
    subst (λ (front : List (List IndId)).
    Marks slots arity front c.loop-place.runs.items c.loop-place.end)
    (take_all c.loop-place.place rows (let past = c.loop-place-test.false in
    omega (arith, past, c.len-place-end.ensures))) c.loop-place.invariant in
    AreMarked-end slots arity rows c.loop-place.runs.items c.clear_to.new.runs.items
    c.loop-place.end marks
    (subst (λ (k : ℕ). Cleared c.loop-place.runs.items k c.clear_to.new.runs.items) count
    c.in_ok-clear_to.ensures)
