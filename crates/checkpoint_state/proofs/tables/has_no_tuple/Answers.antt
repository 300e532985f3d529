-- There is no tuple where there is no slot and some place.
use Rattle.std.proofs.Common.{◌≡◌, ◌^◌, ℕ, nat_lt, subst}
use Rattle.std.specs.Prelude.{◌↔◌, IsTrue}
use Rattle.checkpoint_state.proofs.Powers.{decided_none, decided_some}
use Rattle.checkpoint_state.proofs.tables.has_no_tuple.Goals as goal

pub returns-then-slots-eq0 : goal.returns-then-slots-eq0
returns-then-slots-eq0 c =
    subst (λ (k : ℕ). IsTrue (nat_lt 0 c.vars.result) ↔ (c.args.slots ^ k ≡ 0))
    c.vars.ensures.same (decided_none c.args.slots c.vars.result c.if-slots-eq0.true)

pub returns-else-slots-eq0 : goal.returns-else-slots-eq0
returns-else-slots-eq0 c =
    decided_some c.args.slots c.args.query.now.vars c.if-slots-eq0.false
