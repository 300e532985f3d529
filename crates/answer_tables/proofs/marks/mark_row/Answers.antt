use Rattle.std.proofs.Common.{◌≡◌, ◌+◌, ◌^◌, ◌≤◌, ◌++◌, ◌∷◌, [], ℕ, List, length, take, sym, ◌∙◌}
use Rattle.std.proofs.Common.{subst, arith}
use Rattle.std.proofs.lemmas.Bool.{true≢false}
use Rattle.dl_syntax.specs.declared.names.IndId.{IndId}
use Rattle.answer_tables.specs.Runs.{Extended}
use Rattle.answer_tables.specs.Tuples.{IsTuple, number}
use Rattle.answer_tables.specs.Marks.{Cleared, Marks}
use Rattle.answer_tables.proofs.Numbers.{tuple_below}
use Rattle.answer_tables.proofs.Marking.{Marks-skip, Marks-row}
use Rattle.answer_tables.proofs.TupleRows.{take_row, below_later, row_holds}
use Rattle.answer_tables.proofs.marks.mark_row.Goals as goal

pub returns-then-not-is_below : goal.returns-then-not-is_below
returns-then-not-is_below c =
    let rows = c.args.rows.now.rows in
    let row = c.row-row.result.now in
    subst (λ (front : List (List IndId)).
    Marks c.args.slots c.args.rows.now.arity front c.args.runs.now.items c.args.end)
    (sym (take_row rows c.args.place row c.row-row.ensures))
    (Marks-skip c.args.slots c.args.rows.now.arity (take c.args.place rows) row
    c.args.runs.now.items c.args.end c.requires.marks
    (λ tup. true≢false (sym (c.is_below.ensures.1 tup.1) ∙ c.if-not-is_below.true)))

pub number_of-rank-requires-clause-few : goal.number_of-rank-requires-clause-few
number_of-rank-requires-clause-few c =
    let long : length c.row-row.result.now ≡ c.args.rows.now.arity =
    row_holds (λ (r : List IndId). length r
    ≡ c.args.rows.now.arity) c.args.rows.now.rows c.args.place c.row-row.result.now
    c.requires.wide c.row-row.ensures in
    subst (λ (k : ℕ). c.args.slots ^ k ≤ 2 ^ 60) (sym long) c.requires.few

pub clear_to-requires-clause-ahead : goal.clear_to-requires-clause-ahead
clear_to-requires-clause-ahead c =
    let rows = c.args.rows.now.rows in
    let row = c.row-row.result.now in
    let tup : IsTuple c.args.slots c.args.rows.now.arity row = (
      row_holds (λ (r : List IndId). length r
          ≡ c.args.rows.now.arity) rows c.args.place row c.requires.wide c.row-row.ensures,
      c.is_below.ensures.0 c.if-not-is_below.false,
    ) in
    let ahead = c.requires.marks.next row tup
    (below_later rows c.args.place row c.requires.rising c.row-row.ensures) in
    omega (arith, ahead, c.number_of-rank.ensures)

pub overflow_add-end : goal.overflow_add-end
overflow_add-end c =
    let rows = c.args.rows.now.rows in
    let row = c.row-row.result.now in
    let tup : IsTuple c.args.slots c.args.rows.now.arity row = (
      row_holds (λ (r : List IndId). length r
          ≡ c.args.rows.now.arity) rows c.args.place row c.requires.wide c.row-row.ensures,
      c.is_below.ensures.0 c.if-not-is_below.false,
    ) in
    let below = tuple_below c.args.slots c.args.rows.now.arity row tup in
    omega (arith, below, c.number_of-rank.ensures, c.requires.few)

pub returns : goal.returns
returns c =
    let slots = c.args.slots in
    let arity = c.args.rows.now.arity in
    let rows = c.args.rows.now.rows in
    let row = c.row-row.result.now in
    let cleared = c.clear_to.new.runs.items in
    let new = c.extend.new.runs.items in
    let tup : IsTuple slots arity row = (
      row_holds (λ (r : List IndId). length r
          ≡ arity) rows c.args.place row c.requires.wide c.row-row.ensures,
      c.is_below.ensures.0
          c.if-not-is_below.false,
    ) in
    let clear : Cleared c.args.runs.now.items (number slots row) cleared =
    subst (λ (k : ℕ). Cleared c.args.runs.now.items k cleared) c.number_of-rank.ensures
    c.in_ok-clear_to.ensures in
    let extended : Extended cleared (record { end = number slots row + 1; link = 1 }) new =
    subst (λ (k : ℕ). Extended cleared (record { end = k + 1; link = 1 }) new)
    c.number_of-rank.ensures c.in_ok-extend.ensures.ok in
    let marks : Marks slots arity (take c.args.place rows ++ row ∷ []) new (number slots row + 1) =
    Marks-row slots arity (take c.args.place rows) row c.args.runs.now.items cleared new c.args.end
    c.requires.marks tup (below_later rows c.args.place row c.requires.rising c.row-row.ensures)
    clear extended in
    subst (λ (k : ℕ). Marks slots arity (take (c.args.place + 1) rows) new (k + 1))
    (sym c.number_of-rank.ensures)
    (subst (λ (front : List (List IndId)). Marks slots arity front new (number slots row + 1))
    (sym (take_row rows c.args.place row c.row-row.ensures)) marks)
