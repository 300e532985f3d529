-- There is room for the slots of the names.
use Rattle.std.proofs.Common.{ℕ, ◌+◌, ◌-◌, ◌≤◌, sym, subst, arith}
use Rattle.std.specs.List.{All}
use Rattle.monitor_core.specs.Widening.{CanWidenAll}
use Rattle.monitor_core.proofs.Widening.{can_widen_all}
use Rattle.monitor_core.proofs.declare.declare_wider.Goals as goal

pub widen_all-requires : goal.widen_all-requires
widen_all-requires c =
    let plan = c.args.plan.now in
    let more : ℕ = c.count.result - c.count-count.result in
    let small : plan.slots + more ≤ 4097 =
    omega (
      arith,
      c.requires.plan.few_slots,
      c.requires.plan.sound.few_individuals,
      c.count-count.ensures.count,
      c.count.ensures.count,
      c.count.ensures.sound.few_individuals,
    ) in
    subst (All (CanWidenAll more)) (sym c.as_slice-2.ensures.value)
    (can_widen_all plan.slots more plan.queries.items c.args.state.now.kept.items c.requires.some
    small c.requires.plan.tables c.requires.fits)
