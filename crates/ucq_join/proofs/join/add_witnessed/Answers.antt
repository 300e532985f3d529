use Rattle.std.proofs.Common.{◌≡◌, ◌∙◌, subst, List, Some, None}
use Rattle.std.proofs.lemmas.Result.{on_ok_weaker}
use Rattle.dl_syntax.specs.declared.names.IndId.{IndId}
use Rattle.ucq_join.specs.Gathered.{AddsRows}
use Rattle.ucq_join.specs.Partial.{row_of, IsAnswerFrom}
use Rattle.ucq_join.proofs.Adding.{adds_none, row_length}
use Rattle.ucq_join.proofs.Witnesses.{answer_none, adds_match}
use Rattle.ucq_join.proofs.join.add_witnessed.Goals as goal

pub returns-then-not-branch-clause-rows : goal.returns-then-not-branch-clause-rows
returns-then-not-branch-clause-rows c =
    let fits = rw c.if-not-branch.true at c.in_ok-write_row.ensures in
    let e : row_of c.args.bindings.now.items c.args.head.now ≡ None =
    rw c.as_slice.ensures.value at fits.1 in
    adds_none c.args.rows.now (IsAnswerFrom c.args.index.now c.args.head.now c.args.body.now
    c.args.bindings.now.items)
    (answer_none c.args.index.now c.args.head.now c.args.body.now c.args.bindings.now.items
    c.requires.bound e)

pub add-requires : goal.add-requires
add-requires c =
    let fits = rw c.if-not-branch.false at c.in_ok-write_row.ensures in
    let e : row_of c.args.bindings.now.items c.args.head.now ≡ Some c.write_row.new.places.items =
    rw c.as_slice.ensures.value at fits.0 in
    rw c.as_slice-2.ensures.value (row_length c.args.bindings.now.items c.args.head.now
    c.write_row.new.places.items e ∙ c.requires.wide)

pub returns-clause-rows : goal.returns-clause-rows
returns-clause-rows c =
    let fits = rw c.if-not-branch.false at c.in_ok-write_row.ensures in
    let row = c.write_row.new.places.items in
    let e : row_of c.args.bindings.now.items c.args.head.now ≡ Some row =
    rw c.as_slice.ensures.value at fits.0 in
    on_ok_weaker c.add.result (λ added.
    adds_match c.args.index.now c.args.head.now c.args.body.now c.args.bindings.now.items
    c.requires.bound c.args.rows.now c.add.new.self row e
    (c.in_ok-has_match.ensures.found.0 c.if-not-branch-2.false)
    (subst (λ (r : List IndId). AddsRows c.args.rows.now c.add.new.self (λ other. other ≡ r))
    c.as_slice-2.ensures.value added)) c.add.ensures
