use Rattle.std.proofs.Common.{arith}
use Rattle.std.proofs.lemmas.Option.{slice_get-get_or}
use Rattle.perfect_ref.proofs.Gained.{ByNumber}
use Rattle.proof_search.proofs.Growing.{grows_start, grows_next, grows_number, grows_list}
use Rattle.proof_search.proofs.Growing.{at_still, no_inclusion}
use Rattle.proof_search.proofs.reached.add_replacements.Goals as goal

pub loop-number-init : goal.loop-number-init
loop-number-init c =
    grows_start c.args.inclusions.now (ByNumber c.args.inclusions.now c.args.cq.now c.args.place)
    c.args.reached.now.found.keys c.args.reached.now.links.items

pub add_replacement-requires-clause-at : goal.add_replacement-requires-clause-at
add_replacement-requires-clause-at c =
    at_still c.args.inclusions.now _ c.args.reached.now.found.keys
    c.loop-number.reached.found.keys c.args.reached.now.links.items
    c.loop-number.reached.links.items c.args.from c.args.cq.now c.requires.at
    c.loop-number.invariant

pub loop-number-preserved : goal.loop-number-preserved
loop-number-preserved c =
    let listed = slice_get-get_or c.args.inclusions.now c.loop-number.number no_inclusion
    c.loop-number-test.true in
    grows_next c.args.inclusions.now c.args.reached.now.found.keys
    c.loop-number.reached.found.keys _ c.args.reached.now.links.items
    c.loop-number.reached.links.items _
    (ByNumber c.args.inclusions.now c.args.cq.now c.args.place) c.loop-number.number
    c.loop-number.invariant
    (grows_number c.args.inclusions.now c.loop-number.reached.found.keys _
    c.loop-number.reached.links.items _ c.args.cq.now c.args.place c.loop-number.number _ listed
    (c.in_ok-add_replacement.ensures _ listed))

pub returns : goal.returns
returns c =
    grows_list c.args.inclusions.now c.args.reached.now.found.keys
    c.loop-number.reached.found.keys c.args.reached.now.links.items
    c.loop-number.reached.links.items c.args.cq.now c.args.place c.loop-number.number
    (omega arith) c.loop-number.invariant
