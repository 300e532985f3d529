use Rattle.std.proofs.Common.{arith}
use Rattle.std.proofs.lemmas.Option.{slice_get-get_or}
use Rattle.perfect_ref.proofs.Gained.{ByNumber, Gains-start, Gains-next, Gains-number, Gains-list}
use Rattle.perfect_ref.proofs.successors.push_replacements.Goals as goal

pub loop-inclusion-init : goal.loop-inclusion-init
loop-inclusion-init c = Gains-start (ByNumber c.args.inclusions.now c.args.cq.now c.args.place)
    c.args.out.now.items

pub loop-inclusion-preserved : goal.loop-inclusion-preserved
loop-inclusion-preserved c =
    Gains-next (ByNumber c.args.inclusions.now c.args.cq.now c.args.place)
    c.loop-inclusion.inclusion-index c.args.out.now.items c.loop-inclusion.out.items _
    c.loop-inclusion.invariant
    (Gains-number c.args.inclusions.now c.args.cq.now c.args.place c.loop-inclusion.inclusion-index
    _ c.loop-inclusion.out.items _ (slice_get-get_or c.args.inclusions.now
    c.loop-inclusion.inclusion-index _ c.loop-inclusion-test.true)
    c.in_ok-push_replacement.ensures)

pub returns : goal.returns
returns c =
    Gains-list c.args.inclusions.now c.args.cq.now c.args.place c.loop-inclusion.inclusion-index
    c.args.out.now.items c.loop-inclusion.out.items (omega arith) c.loop-inclusion.invariant
