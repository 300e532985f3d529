-- Answers to the goals of `declared_rows`: the rows rise.
use Rattle.std.proofs.Common.{◌≡◌, ◌<◌, List, length, get_or, sym, subst, arith}
use Rattle.std.specs.Prelude.{◌↔◌, ◌⊎◌}
use Rattle.std.specs.List.{All, Contains}
use Rattle.std.proofs.lemmas.Option.{get_or_from_slice_get}
use Rattle.dl_syntax.specs.declared.names.IndId.{IndId}
use Rattle.dl_syntax.specs.Rows.{IsAboveLast}
use Rattle.model_audit.specs.Rows.{IsDeclared}
use Rattle.model_audit.proofs.Selecting.{row_above, kept_next, kept_all}
use Rattle.model_audit.proofs.rows.declared_rows.Goals as goal

pub keep_row-requires-clause-above : goal.keep_row-requires-clause-above
keep_row-requires-clause-above c =
    let within : c.loop-place.place < length c.args.rows.now.rows = omega arith in
    subst (λ (row : List IndId). IsAboveLast row c.loop-place.kept.rows)
    (get_or_from_slice_get c.args.rows.now.rows c.loop-place.place c.row.result.now c.row.result.now
    c.row.ensures)
    (row_above c.args.count c.args.rows.now c.loop-place.kept c.loop-place.place c.row.result.now
    within
    c.loop-place.invariant c.requires.rising)

pub loop-place-preserved : goal.loop-place-preserved
loop-place-preserved c =
    let within : c.loop-place.place < length c.args.rows.now.rows = omega arith in
    let is : get_or c.args.rows.now.rows c.loop-place.place c.row.result.now ≡ c.row.result.now =
    get_or_from_slice_get c.args.rows.now.rows c.loop-place.place c.row.result.now c.row.result.now
    c.row.ensures in
    kept_next c.args.count c.args.rows.now c.loop-place.kept c.loop-place.place c.row.result.now
    within
    c.loop-place.invariant c.keep_row.new.kept c.in_ok-keep_row.ensures.wide
    c.in_ok-keep_row.ensures.rising
    (subst (λ (row : List IndId). (other : List IndId) → Contains c.keep_row.new.kept.rows other
    ↔ (Contains c.loop-place.kept.rows other
    ⊎ ((other ≡ row) × All (IsDeclared c.args.count) other))) (sym is)
    c.in_ok-keep_row.ensures.rows)

pub returns-clause-rows : goal.returns-clause-rows
returns-clause-rows c =
    kept_all c.args.count c.args.rows.now c.loop-place.kept c.loop-place.place (omega arith)
    c.loop-place.invariant
