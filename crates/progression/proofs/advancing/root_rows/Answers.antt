use Rattle.std.proofs.Common.{◌≡◌, ◌<◌, ◌-◌, ◌∙◌, ℕ, List, length, ap, subst, arith}
use Rattle.std.specs.Prelude.{slice_index_or}
use Rattle.std.proofs.lemmas.List.{get_or_default}
use Rattle.tcq_syntax.specs.declared.nodes.Node.{Node}
use Rattle.tcq_syntax.specs.Laws.{IsWeakSet}
use Rattle.answer_tables.specs.Table.{Antichains}
use Rattle.progression.specs.Tables.{no_table, table_at}
use Rattle.progression.proofs.NextKept.{root_within, root_read}
use Rattle.progression.proofs.advancing.root_rows.Goals as goal

pub overflow_sub-nodes : goal.overflow_sub-nodes
overflow_sub-nodes c = let some = root_within c.args.query.now c.nodes-nodes.ensures.valid in
    let same = ap length c.nodes-nodes.ensures.same in omega (arith, some, same)

pub bounds-tables-nodes : goal.bounds-tables-nodes
bounds-tables-nodes c = let some = root_within c.args.query.now c.nodes-nodes.ensures.valid in
    let same = ap length c.nodes-nodes.ensures.same in omega (arith, some, same, c.requires.long)

pub returns : goal.returns
returns c =
    let query = c.args.query.now in
    let tables = c.args.tables.now in
    let some = root_within query c.nodes-nodes.ensures.valid in
    let within : length query.nodes - 1 < length tables = omega (arith, some, c.requires.long) in
    let root = c.index-tables-nodes.result in
    let place : length c.nodes-nodes.result.now - 1 ≡ length query.nodes - 1 =
    ap (λ (ns : List Node). length ns - 1) c.nodes-nodes.ensures.same in
    let is : root ≡ table_at tables (length query.nodes - 1) =
    c.index-tables-nodes.is ∙ ap (λ (k : ℕ).
    slice_index_or tables k root) place ∙ get_or_default tables (length query.nodes - 1) root
    no_table within in
    root_read query c.args.slots.kept c.args.slots.answered tables c.requires.shape root
    c.weak_set-weak.result c.tuples_holding.result is within c.weak_set-weak.type_inv
    (subst (λ (ns : List Node). IsWeakSet ns c.weak_set-weak.result) c.nodes-nodes.ensures.same
    c.weak_set-weak.ensures)
    c.tuples_holding.ensures.arity c.tuples_holding.ensures.rising c.tuples_holding.ensures.exact

pub tuples_holding-requires : goal.tuples_holding-requires
tuples_holding-requires c =
    let query = c.args.query.now in
    let tables = c.args.tables.now in
    let some = root_within query c.nodes-nodes.ensures.valid in
    let within : length query.nodes - 1 < length tables = omega (arith, some, c.requires.long) in
    let root = c.index-tables-nodes.result in
    let place : length c.nodes-nodes.result.now - 1 ≡ length query.nodes - 1 =
    ap (λ (ns : List Node). length ns - 1) c.nodes-nodes.ensures.same in
    let is : root ≡ slice_index_or tables (length query.nodes - 1) root =
    c.index-tables-nodes.is ∙ ap (λ (k : ℕ). slice_index_or tables k root) place in
    let slots_are : root.slots ≡ c.args.slots.kept =
    ap (λ (t : Antichains). t.slots) is
    ∙ (c.requires.shape (length query.nodes - 1) root within).0 in
    omega (arith, c.requires.within, slots_are)
