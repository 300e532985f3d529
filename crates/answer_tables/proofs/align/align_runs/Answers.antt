use Rattle.std.proofs.Common.{arith}
use Rattle.answer_tables.proofs.Aligning.{Aligning-step}
use Rattle.answer_tables.proofs.align.align_runs.Goals as goal

pub loop-i-preserved : goal.loop-i-preserved
loop-i-preserved c =
    let a = c.args.a.now in
    let b = c.args.b.now in
    let p = c.loop-i.i in
    let q = c.loop-i.j in
    let old = c.loop-i.numbering.joints.items in
    let new = c.number.new.self.joints.items in
    Aligning-step a b c.loop-i.runs.items c.extend.new.runs.items old new p q c.loop-i.rank
    c.min-end.result c.in_ok-number.number c.loop-i.invariant (omega arith) (omega arith)
    c.in_ok-number.ensures c.min-end.ensures c.in_ok-extend.ensures.ok c.next_place-i.result
    c.next_place-j.result
    c.next_place-i.ensures.ended c.next_place-i.ensures.inside c.next_place-j.ensures.ended
    c.next_place-j.ensures.inside
