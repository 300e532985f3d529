use Rattle.run_proofs.proofs.Numbers.{one_collected, all_collected}
use Rattle.run_proofs.proofs.variables.variables_of.Goals as goal

pub loop-atom-preserved : goal.loop-atom-preserved
loop-atom-preserved c =
    one_collected c.args.body.now c.loop-atom.atom-index _ c.loop-atom.numbers.items _
    c.loop-atom-test.true c.loop-atom.invariant c.in_ok-add_atom.ensures.rising
    c.in_ok-add_atom.ensures.member

pub add_atom-requires : goal.add_atom-requires
add_atom-requires c = c.loop-atom.invariant.rising

pub returns : goal.returns
returns c = all_collected c.args.body.now c.loop-atom.atom-index c.loop-atom.numbers.items
    c.loop-atom-test.false c.loop-atom.invariant
