use Rattle.std.proofs.Common.{◌≡◌, ℕ, sym, ◌∙◌, subst, length, arith}
use Rattle.progression.specs.Tables.{AreKeptOf}
use Rattle.progression.proofs.Keeping.{AreKeptOf-step, drop_next}
use Rattle.progression.proofs.keep.kept_tables.Goals as goal

pub loop-table-preserved : goal.loop-table-preserved
loop-table-preserved c =
    let inv = c.loop-table.invariant in
    let steps = c.in-Some.ensures.steps in
    let next = drop_next c.args.tables.items c.loop-table.place c.in-Some.table _
    (sym steps.0 ∙ inv.rest) in
    record {
      rest = next.1;
      left = omega (arith, steps.1, inv.left);
      kept = AreKeptOf-step c.args.query.now.nodes c.args.tables.items c.loop-table.place
          c.loop-table.kept.items inv.kept c.in-Some.table next.0 c.in_ok-kept.kept.items
          c.in_ok-kept.ensures;
    }

pub returns : goal.returns
returns c =
    let inv = c.loop-table.invariant in
    let steps = c.in-None.ensures.steps in
    let all : c.loop-table.place ≡ length c.args.query.now.nodes =
    omega (arith, steps.0, inv.left, c.requires.long) in
    subst (λ (k : ℕ). AreKeptOf c.args.query.now.nodes k c.args.tables.items
    c.loop-table.kept.items) all inv.kept
