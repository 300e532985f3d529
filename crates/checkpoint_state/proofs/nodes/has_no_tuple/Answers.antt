-- A table has no tuple where there is no slot and some place.
use Rattle.std.proofs.Common.{ℕ, nat_eq, nat_lt, sym, ◌∙◌, ap}
use Rattle.checkpoint_state.proofs.Powers.{tested_none, tested_some}
use Rattle.checkpoint_state.proofs.nodes.has_no_tuple.Goals as goal

pub returns-then-slots-eq0 : goal.returns-then-slots-eq0
returns-then-slots-eq0 c =
    ap (nat_lt 0) c.arity.ensures
    ∙ tested_none c.args.table.now.slots c.args.table.now.arity
    (sym c.slots.ensures ∙ c.if-slots-eq0.true)

pub returns-else-slots-eq0 : goal.returns-else-slots-eq0
returns-else-slots-eq0 c =
    ap (λ (n : ℕ). nat_eq n 0) c.slots.ensures
    ∙ tested_some c.args.table.now.slots c.args.table.now.arity
    (λ none. c.if-slots-eq0.false (c.slots.ensures ∙ none))
