use Rattle.checkpoint_reader.proofs.Items.{no_stretches, not_empty}
use Rattle.checkpoint_reader.proofs.stretches.read_stretches.Goals as goal

pub returns-else-is_empty : goal.returns-else-is_empty
returns-else-is_empty c =
    let inv = c.loop-stretch.invariant in
    no_stretches c.args.text.now c.loop-stretch.stretches.items c.loop-stretch.rest.now inv.cut
    inv.small inv.ends (not_empty c.loop-stretch.rest.now c.if-is_empty.ensures)
    c.in_default.ensures
