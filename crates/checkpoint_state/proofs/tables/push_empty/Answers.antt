-- One place more: with a table without tuples where its node is kept.
use Rattle.std.proofs.Common.{◌≡◌, ◌∙◌, true, false, refl}
use Rattle.checkpoint_state.proofs.Emptying.{below_push, below_skip, empty_fits}
use Rattle.checkpoint_state.proofs.tables.push_empty.Goals as goal

pub returns-then-not-is_kept : goal.returns-then-not-is_kept
returns-then-not-is_kept c =
    below_skip c.args.query.now c.args.slots c.args.place c.args.tables.now.items c.requires.before
    (λ kept. let differ : false ≡ true = c.if-not-is_kept.ensures.1 kept in cc)

pub returns : goal.returns
returns c =
    below_push c.args.query.now c.args.slots c.args.place c.args.tables.now.items
    c.push.new.self.items (c.args.place, c.in_ok-table.table) c.requires.before
    (empty_fits c.args.query.now c.args.slots (c.args.place, c.in_ok-table.table)
    (c.if-not-is_kept.ensures.0 refl) c.in_ok-table.ensures.slots
    (c.in_ok-table.ensures.arity ∙ c.vars.ensures.same) c.requires.none) refl
    c.in_ok-push.ensures.items
